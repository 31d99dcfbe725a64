-- What the contracts of private functions cite.
use Rattle.std.specs.Prelude.{ℕ, suc, ◌≡◌, List, [], ◌∷◌, ◌++◌, true, false, ltb, None, Option}
use Rattle.json_text.specs.Members.{Member}
use Rattle.faults.specs.declared.Fault.{Fault}
use Rattle.faults.specs.Faults.{earlier, least}
use Rattle.fields.specs.Fields.{field_faults}
use Rattle.fields.specs.Known.{field_at}
use Rattle.fields.specs.declared.Kind.TheVariants.{Text, Object}
use Rattle.properties.specs.Property.{Property, insert_all}
use Rattle.properties.specs.declared.Entries.{Entries}
use Rattle.properties.specs.Entries.{properties_most, view}
use Rattle.nodes.specs.declared.Listed.{Listed}
use Rattle.nodes.specs.Nodes.{too_many_at}

-- the member whose name is at i, whose value stands from k to e
abbrev pub item_of : ℕ → ℕ → ℕ → Member
item_of i k e = record { name = i; value = k; end = e }

-- counting to 24
unfoldable pub counted : ℕ → List Member → ℕ
counted n [] = n
counted n (m ∷ ms) = elim (ltb n properties_most) [ true ↦ counted (suc n) ms | false ↦ n ]

-- a property whose ID is at k, n of them counted before
unfoldable pub past_most_at : List ℕ → ℕ → ℕ → List Fault
past_most_at s n k = elim (ltb n properties_most) [ true ↦ [] | false ↦ too_many_at s k ]

-- properties past the 24th
unfoldable pub past_most : List ℕ → ℕ → List Member → List Fault
past_most s n [] = []
past_most s n (m ∷ ms) = past_most_at s n m.name ++ past_most s (counted n (m ∷ [])) ms

-- a list, and what is told so far
abbrev pub lists : Option Fault → Entries → Listed
lists told list = record { told = told; list = list }

-- these faults and these properties more: what is told of them besides, and if nothing is, the list with the properties put in
pub record Adds (faults : List Fault) (named : List Member) (ps : List Property) (s : List ℕ) (before after : Listed) : Type 0 where
  pub told : after.told ≡ earlier before.told (least (faults ++ past_most s before.list.n named))
  pub count : after.list.n ≡ counted before.list.n named
  pub list : after.told ≡ None → view s after.list ≡ insert_all ps (view s before.list)

-- the known fields of a node, by what was seen of them
unfoldable pub seen_faults : List ℕ → List ℕ → List Fault
seen_faults s seen = field_faults Text s (field_at seen 0) ++ (field_faults Text s (field_at seen 1) ++ field_faults Object s (field_at seen 13))
