use Rattle.whole.proofs.Products.{upper-right}
use Rattle.whole.proofs.product.upper_half.Goals as goal

pub returns : goal.returns
returns c = upper-right c.args.a c.args.b
