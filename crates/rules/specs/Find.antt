-- Devices by ID and properties by their two IDs: found, changed, taken out, put in.
use Rattle.std.specs.Prelude.{ℕ, zero, suc, List, [], ◌∷◌, Bool, true, false, ◌&&◌, Option, None, Some}
use Rattle.answer.specs.Answer.{Answer, refused, gives, only}
use Rattle.text.specs.Bytes.{eq_bytes, less_bytes}
use Rattle.rules.specs.Table.{Property, Description, Device}

-- 12: "device not in the table"
unfoldable pub find : List ℕ → List Device → Answer Device
find id [] = refused (only 12)
find id (v ∷ vs) = elim (eq_bytes v.id id) [ true ↦ gives v | false ↦ find id vs ]

-- that device changed
unfoldable pub change : List ℕ → (Device → Device) → List Device → List Device
change id f [] = []
change id f (v ∷ vs) = elim (eq_bytes v.id id) [ true ↦ f v ∷ vs | false ↦ v ∷ change id f vs ]

-- that device taken out
unfoldable pub remove : List ℕ → List Device → List Device
remove id [] = []
remove id (v ∷ vs) = elim (eq_bytes v.id id) [ true ↦ vs | false ↦ v ∷ remove id vs ]

-- a device put in "by ascending ID bytes": before the first that has a larger ID
unfoldable pub insert : Device → List Device → List Device
insert w [] = w ∷ []
insert w (v ∷ vs) = elim (less_bytes w.id v.id) [ true ↦ w ∷ (v ∷ vs) | false ↦ v ∷ insert w vs ]

-- a property is named by its node's ID and its own
unfoldable pub is_named : List ℕ → List ℕ → Property → Bool
is_named node id p = eq_bytes p.declared.node node && eq_bytes p.declared.id id

-- 16: "no such property"
unfoldable pub find_property : List ℕ → List ℕ → List Property → Answer Property
find_property node id [] = refused (only 16)
find_property node id (p ∷ ps) = elim (is_named node id p) [ true ↦ gives p | false ↦ find_property node id ps ]

unfoldable pub change_property : List ℕ → List ℕ → (Property → Property) → List Property → List Property
change_property node id f [] = []
change_property node id f (p ∷ ps) = elim (is_named node id p) [ true ↦ f p ∷ ps | false ↦ p ∷ change_property node id f ps ]

-- a device with one of its properties changed
unfoldable pub in_description : (List Property → List Property) → Option Description → Option Description
in_description f None = None
in_description f (Some x) = Some (record { root = x.root; parent = x.parent; version = x.version; properties = f x.properties })

unfoldable pub in_device : (List Property → List Property) → Device → Device
in_device f v = record { id = v.id; state = v.state; time = v.time; description = in_description f v.description }

-- ---- by place, for lists in memory: where the first stands that passes a test (the length where none does), and an element changed

unfoldable pub first_at : {A : Type 0} → (A → Bool) → List A → ℕ
first_at test [] = 0
first_at test (x ∷ xs) = elim (test x) [ true ↦ 0 | false ↦ suc (first_at test xs) ]

unfoldable pub change_at : {A : Type 0} → ℕ → (A → A) → List A → List A
change_at i f [] = []
change_at zero f (x ∷ xs) = f x ∷ xs
change_at (suc i) f (x ∷ xs) = x ∷ change_at i f xs
