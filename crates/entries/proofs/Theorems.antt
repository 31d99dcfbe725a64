-- What this crate promises beyond its contracts.
use Prim.Native.Nat.{ℕ}
use mathlib.Core.Path.{◌≡◌, refl}
use mathlib.Core.Logic.{◌↔◌}
use mathlib.Core.List.{List, [], ◌∷◌}
use mathlib.Core.Bool.{true, false}
use lib.Dec.{leb}
use lib.ListN.{length}
use Rattle.text.specs.Bytes.{eq_bytes}
use Rattle.text.specs.Split.{split, onto}
use Rattle.text.proofs.Bytes.{and_both}
use Rattle.entries.specs.Entries.{entries_of, is_in, none_empty, no_repeats, is_list, all_in}
use Rattle.entries.specs.Places.{Holds, Each, Distinct}
use Rattle.entries.proofs.Places.{is_in-holds, each_is, no_repeats_distinct}

-- "exactly one entry of the format": a place of the list holds it
pub is_in_lem : (l : List ℕ) (ls : List (List ℕ)) → (is_in l ls ≡ true) ↔ Holds l ls
is_in_lem = is_in-holds

-- "no empty entry": each place holds one of a byte or more
pub none_empty_lem : (ls : List (List ℕ)) → (none_empty ls ≡ true) ↔ Each (λ l. leb 1 (length l)) ls
unfolding none_empty
none_empty_lem = each_is none_empty (λ l. leb 1 (length l)) refl (λ l ls. refl)

-- "no repeats": no two places hold equal entries
pub no_repeats_lem : (ls : List (List ℕ)) → (no_repeats ls ≡ true) ↔ Distinct ls
no_repeats_lem = no_repeats_distinct

-- "comma list, no empty entry, no repeats"
pub is-list : (s : List ℕ) → (is_list s ≡ true) ↔ (Each (λ l. leb 1 (length l)) (entries_of s) × Distinct (entries_of s))
unfolding is_list
is-list s = (
  λ e. let p = and_both (none_empty (entries_of s)) (no_repeats (entries_of s)) e in ((none_empty_lem (entries_of s)).0 p.0, (no_repeats_lem (entries_of s)).0 p.1),
  λ p. rw ((none_empty_lem (entries_of s)).1 p.0) ((no_repeats_lem (entries_of s)).1 p.1),
)

-- each entry is one of the others
pub all_in_lem : (ls ms : List (List ℕ)) → (all_in ls ms ≡ true) ↔ Each (λ l. is_in l ms) ls
unfolding all_in
all_in_lem ls ms = each_is (λ l. all_in l ms) (λ l. is_in l ms) refl (λ l ks. refl) ls

-- `a,b` is a list; `a,b,b`, `a,,b` and the empty string are none
pub two : is_list (0x61 ∷ 0x2C ∷ 0x62 ∷ []) ≡ true
unfolding is_list none_empty no_repeats is_in eq_bytes split onto
two = refl

pub repeat : is_list (0x61 ∷ 0x2C ∷ 0x62 ∷ 0x2C ∷ 0x62 ∷ []) ≡ false
unfolding is_list none_empty no_repeats is_in eq_bytes split onto
repeat = refl

pub gap : is_list (0x61 ∷ 0x2C ∷ 0x2C ∷ 0x62 ∷ []) ≡ false
unfolding is_list none_empty no_repeats is_in eq_bytes split onto
gap = refl

pub empty : is_list [] ≡ false
unfolding is_list none_empty no_repeats is_in eq_bytes split onto
empty = refl
