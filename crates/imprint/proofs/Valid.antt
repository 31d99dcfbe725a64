-- Every valid description fits.
use Rattle.std.specs.Prelude.{Option, None, Some}
use Prim.Native.Nat.{ℕ}
use mathlib.Core.Path.{◌≡◌, refl}
use mathlib.Core.List.{List, [], ◌∷◌}
use mathlib.Core.Bool.{true}
use Rattle.text.specs.Ids.{is_id}
use Rattle.text.proofs.Ids.{is-id}
use Rattle.properties.specs.Property.{Property}
use Rattle.properties.specs.Valid.{Valid, In, here, later}
use Rattle.description.specs.Description.{Described}
use Rattle.description.specs.Declares.{Other, Declares}
use Rattle.imprint.specs.Fits.{FitsId, FitsIdOrNone, FitsProperty, FitEach, FitsRoom}

id-fits : (t : List ℕ) → is_id t ≡ true → FitsId t
id-fits t e = let i = is-id t e in record { some = i.some; short = i.few }

optional-fits : (own : List ℕ) (o : Option (List ℕ)) → ((t : List ℕ) → o ≡ Some t → Other own t) → FitsIdOrNone o
optional-fits own None h = tt
optional-fits own (Some t) h = id-fits t (h t refl).is

property-fits : (p : Property) → Valid p → FitsProperty p
property-fits p v = record { node = (id-fits p.node v.node).short; id = (id-fits p.id v.id).short; format = v.short }

each_fits : (ps : List Property) → ((p : Property) → In p ps → Valid p) → FitEach ps
each_fits [] h = tt
each_fits (p ∷ ps) h = (property-fits p (h p (here refl)), each_fits ps (λ q i. h q (later i)))

pub declared-fits : (own : List ℕ) (x : Described) → Declares own x → FitsRoom x
declared-fits own x d = record {
  root = optional-fits own x.root d.root;
  parent = optional-fits own x.parent d.parent;
  each = each_fits x.properties d.valid;
  few = d.few;
}
