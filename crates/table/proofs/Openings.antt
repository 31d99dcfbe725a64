-- The domain read as an ID.
use Prim.Native.Nat.{ℕ, ◌≤◌}
use mathlib.Core.Path.{◌≡◌, ap, ◌∙◌}
use mathlib.Core.List.{List}
use mathlib.Core.Bool.{true}
use lib.ListN.{take}
use Rattle.std.specs.Prelude.{Some}
use Rattle.text.specs.Ids.{is_id, id_bytes, id_of, read_id}
use Rattle.text.specs.declared.Id.{Id}
use Rattle.text.proofs.Ids.{read_some, read_few, id_bytes-id_of}

module _ (domain : List ℕ) (i : Id) (e : Some i ≡ read_id domain) where
  pub read_yes : is_id domain ≡ true
  read_yes = (read_some domain i e).0

  pub bytes_are : take i.len i.bytes ≡ domain
  unfolding id_bytes
  bytes_are = ap id_bytes (read_some domain i e).1 ∙ id_bytes-id_of domain

  pub inside : i.len ≤ 32
  unfolding id_of
  inside = rw (read_some domain i e).1 (read_few domain read_yes)
