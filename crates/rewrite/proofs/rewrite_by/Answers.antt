-- What was loaded is within the space that was lent for it, and so is its title.
use Rattle.desk.proofs.WhatIsLoaded.{first-bytes}
use Rattle.rewrite.proofs.Rewritten.{within}
use Rattle.rewrite.proofs.rewrite_by.Goals as goal

pub retitle-requires : goal.retitle-requires
retitle-requires c = within (first-bytes c.in-Ok.ensures).reads
