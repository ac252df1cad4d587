-- Two domains are one exactly if their bounds are equal numbers.
use Rattle.std.proofs.Common.{◌≡◌, ◌&&◌, ℤ, ap₂}
use Rattle.std.specs.Ordering.{int_eq}
use Rattle.std.proofs.lemmas.Bool.Decides.{same_from_decides, Decides-int_eq}
use Rattle.rules.specs.Descriptions.{same, same_domain}
use Rattle.rules.specs.declared.Domain.{Domain}
use Rattle.rules.proofs.Sound.{same_number, number_same}

same-int : (a b : ℤ) → int_eq a b ≡ same a b
same-int a b = same_from_decides _ _ (Decides-int_eq a b) (same_number a b, number_same a b)

pub same-domain : (a b : Domain) → int_eq a.lower.0 b.lower.0 && int_eq a.upper.0 b.upper.0 ≡ same_domain a b
unfolding same_domain
same-domain a b = ap₂ ◌&&◌ (same-int a.lower.0 b.lower.0) (same-int a.upper.0 b.upper.0)
