-- What the contracts of private functions cite.
use Rattle.std.specs.Prelude.{ℕ, ◌<◌, ◌≡◌, List, [], ◌∷◌, Bool, true, false, not, ◌||◌, cond, length, get_or, eqb, Option, None, Some}
use Rattle.text.specs.Ascii.{ascii}
use Rattle.text.specs.Bytes.{eq_bytes}
use Rattle.escapes.specs.Decode.{Decoded, is_this}
use Rattle.faults.specs.declared.Fault.{Fault}
use Rattle.faults.specs.Faults.{repeated, ◌otherwise◌}
use Rattle.fields.specs.declared.Field.{Field}
use Rattle.fields.specs.declared.Owner.{Owner}
use Rattle.fields.specs.declared.Owner.TheVariants.{Device, Node, Property}
use Rattle.fields.specs.Fields.{one_more, string_faults, id_faults, unless_half}
use Rattle.fields.specs.Names.{is_known}
use Rattle.fields.specs.Known.{known_name, number, field_at}

-- an array's element: an ID, or a string
unfoldable pub item_faults : Bool → List ℕ → ℕ → List Fault
item_faults true s k = id_faults s k
item_faults false s k = string_faults s k

-- ---- the number of a name

pub record Numbered : Type 0 where
  pub name : List ℕ
  pub number : ℕ

unfoldable pub search : List Numbered → List ℕ → ℕ
search [] t = 15
search (x ∷ xs) t = elim (eq_bytes t x.name) [ true ↦ x.number | false ↦ search xs t ]

abbrev pub numbered : List ℕ → ℕ → Numbered
numbered t c = record { name = t; number = c }

-- the known names of a length
unfoldable pub names4 : List Numbered
names4 = numbered (ascii "name") 0 ∷ numbered (ascii "type") 1 ∷ numbered (ascii "unit") 2 ∷ numbered (ascii "root") 3 ∷ []

unfoldable pub names5 : List Numbered
names5 = numbered (ascii "homie") 4 ∷ numbered (ascii "nodes") 5 ∷ []

unfoldable pub names6 : List Numbered
names6 = numbered (ascii "parent") 6 ∷ numbered (ascii "format") 7 ∷ []

unfoldable pub names7 : List Numbered
names7 = numbered (ascii "version") 8 ∷ []

unfoldable pub names8 : List Numbered
names8 = numbered (ascii "datatype") 9 ∷ numbered (ascii "settable") 10 ∷ numbered (ascii "retained") 11 ∷ numbered (ascii "children") 12 ∷ []

unfoldable pub names10 : List Numbered
names10 = numbered (ascii "properties") 13 ∷ numbered (ascii "extensions") 14 ∷ []

unfoldable pub names_of : ℕ → List Numbered
names_of n = cond (eqb n 4) names4 (cond (eqb n 5) names5 (cond (eqb n 6) names6 (cond (eqb n 7) names7 (cond (eqb n 8) names8 (cond (eqb n 10) names10 [])))))

-- 15 where the name is not known
unfoldable pub number_of : List ℕ → ℕ
number_of t = search (names_of (length t)) t

-- the number of the field that a name names; 15 for none
abbrev pub number_in : Option Field → ℕ
number_in None = 15
number_in (Some f) = number f

-- a name's number is c: a known one's, 15 for another
pub record Classified (name : Decoded) (c : ℕ) : Type 0 where
  pub low : c < 16
  pub names : (j : ℕ) → j < 15 → is_this (known_name j) name ≡ eqb j c

-- the number is that of a known field of such an object
unfoldable pub is_known_number : Owner → ℕ → Bool
is_known_number Device c =
    eqb c 4 || (eqb c 8 || (eqb c 5 || (eqb c 0 || (eqb c 1 || (eqb c 12 || (eqb c 3 || (eqb c 6 || eqb c 14)))))))
is_known_number Node c = eqb c 0 || (eqb c 1 || eqb c 13)
is_known_number Property c = eqb c 9 || (eqb c 0 || (eqb c 2 || (eqb c 7 || (eqb c 10 || eqb c 11))))

-- the faults of a name at i, of which `first` is the place of the first value; 0 for none before it
unfoldable pub again_faults : Owner → ℕ → ℕ → List ℕ → List Fault
again_faults owner first i t = (not (is_known owner t) || eqb first 0) otherwise repeated i

unfoldable pub seen_faults : Owner → Decoded → ℕ → ℕ → List Fault
seen_faults owner name first i = unless_half name i (again_faults owner first i)

-- ---- one member more

unfoldable pub seen_more : Bool → Option ℕ → ℕ → Option ℕ
seen_more true f k = one_more f k
seen_more false f k = f

-- of the name number c, with its value at k
pub record Saw (c k : ℕ) (before after : List ℕ) : Type 0 where
  pub long : length after ≡ length before
  pub more : 0 < k → (j : ℕ) → j < 15 → field_at after j ≡ seen_more (eqb j c) (field_at before j) k
  pub below : (n : ℕ) → k < n → ((j : ℕ) → get_or before j 0 < n) → (j : ℕ) → get_or after j 0 < n
