-- The domain in memory, and the rule that it is an ID.
use Prim.Native.Nat.{ℕ}
use mathlib.Core.Path.{◌≡◌, sym, ap, ◌∙◌}
use mathlib.Core.Bool.{Bool}
use mathlib.Core.List.{List}
use Rattle.text.specs.Ids.{is_id}
use Rattle.memory.specs.Bytes.{span}
use Rattle.memory.specs.Layout.{domain_at, domain_length}
use Rattle.memory.specs.Sound as soundness
use Rattle.memory.specs.State.{state}
use Rattle.memory.proofs.Judge.{Decides, tf}
use Rattle.lookup.specs.Meaning.{Sound, opening_of}

pub domain_is : (m : List ℕ) (n : ℕ) → n ≡ domain_length m → span m domain_at n ≡ (opening_of m).domain
unfolding opening_of state
domain_is m n e = ap (λ (k : ℕ). span m domain_at k) e

-- sound as the memory's rule and the domain's say
pub by-domain : (m d : List ℕ) (r : Bool) → soundness.Sound m → d ≡ (opening_of m).domain → r ≡ is_id d → Decides r (Sound m)
unfolding opening_of
by-domain m d r s e i = (λ t. record { memory = s; domain = sym (i ∙ ap is_id e) ∙ t }, λ f x. tf (sym x.domain ∙ sym (i ∙ ap is_id e) ∙ f))
