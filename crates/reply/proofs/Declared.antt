-- What descriptions declare.
use Rattle.faults.specs.declared.Fault.{Fault}
use Rattle.faults.specs.Faults.{fault_number}
use Rattle.std.specs.Prelude.{Option, Some, None}
use mathlib.Core.Path.{◌≡◌, refl, sym, ap, ◌∙◌}
use mathlib.Core.List.{List, [], ◌∷◌}
use mathlib.Core.Bool.{Bool, true, false}
use Prim.Native.Nat.{ℕ, zero, suc, ◌^◌, ◌≤◌, ◌<◌}
use native.Mathlib.Omega.{arith}
use lib.ListN.{length, take, get_or}
use lib.Dec.{ltb}
use mir.Val.{bool_byte}
use Rattle.answer.specs.Answer.{placed}
use Rattle.numbers.specs.Whole.{stands}
use Rattle.payload.specs.Datatypes.{code_of}
use Rattle.fields.specs.Values.{string_bytes}
use Rattle.fields.specs.Fields.{text_in}
use Rattle.properties.specs.Property.{text_of}
use Rattle.properties.specs.declared.Entry.{Entry}
use Rattle.description.specs.declared.Description.{Description}
use Rattle.reply.specs.Reply.{says, refuses, refusal_code, fit_place, twos_complement}
use Rattle.reply.specs.Descriptions.{presence, place, is_given, kept_number, format_place, entry_values, entry_at, unless_told, fit_told, fit_description, show_description, show_declared}
use Rattle.reply.proofs.Shown.{as-bit}

pub description-refused : (d : Description) (f : Fault) {n k : ℕ} → d.told ≡ Some f → n ≡ fault_number f.kind → k ≡ refusal_code (placed n (fit_place f.place)) → show_description (fit_description d) ≡ refuses k
unfolding show_description unless_told fit_told
description-refused d f h g e = rw (h, e, g)

pub description-shown : (d : Description) (v x y z w : ℕ) → d.told ≡ None → v ≡ twos_complement (stands (2 ^ 63) d.version) → x ≡ presence d.root → y ≡ place d.root → z ≡ presence d.parent → w ≡ place d.parent → show_description (fit_description d) ≡ says (v ∷ x ∷ y ∷ z ∷ w ∷ d.properties.n ∷ [])
unfolding show_description unless_told fit_told
description-shown d v x y z w h g a b c e = rw (h, g, a, b, c, e)

-- ---- a property's format

pub given-told : (s : List ℕ) (f x : Option ℕ) → f ≡ x → is_given s x ≡ is_given s f
given-told s f x e = ap (is_given s) (sym e)

pub given-first : (s : List ℕ) (n : ℕ) (f : Option ℕ) (k : ℕ) → f ≡ Some k → n ≡ length (string_bytes s k) → ltb 0 n ≡ is_given s f
unfolding is_given text_of text_in
given-first s n f k e h = ap (ltb 0) h ∙ given-told s f (Some k) e

pub entry-shown : (s : List ℕ) (e : Entry) (c k p : ℕ) (g : Bool) → c ≡ code_of e.datatype → g ≡ is_given s e.format → k ≡ kept_number e.kept g → p ≡ format_place e.kept g e.format → says (entry_values s e) ≡ says (e.node ∷ e.id ∷ c ∷ k ∷ p ∷ bool_byte e.settable ∷ bool_byte e.retained ∷ [])
unfolding entry_values
entry-shown s e c k p g a b h j = rw (a, h, j, b, as-bit e.settable, as-bit e.retained)

-- ---- the i-th

pub none_at : (s : List ℕ) (l : List Entry) (n i : ℕ) → n ≤ i → entry_at s (take n l) i ≡ refuses 3
unfolding entry_at
none_at s [] zero i h = refl
none_at s [] (suc n) i h = refl
none_at s (e ∷ l) zero i h = refl
none_at s (e ∷ l) (suc n) zero h = absurd (omega arith)
none_at s (e ∷ l) (suc n) (suc i) h = none_at s l n i (omega arith)

pub none-past : (s : List ℕ) (l : List Entry) (n i : ℕ) → length l ≤ i → entry_at s (take n l) i ≡ refuses 3
unfolding entry_at
none-past s [] zero i h = refl
none-past s [] (suc n) i h = refl
none-past s (e ∷ l) zero i h = refl
none-past s (e ∷ l) (suc n) zero h = absurd (omega arith)
none-past s (e ∷ l) (suc n) (suc i) h = none-past s l n i (omega arith)

pub one_at : (s : List ℕ) (l : List Entry) (n i : ℕ) (x : Entry) → i < n → i < length l → entry_at s (take n l) i ≡ says (entry_values s (get_or l i x))
unfolding entry_at
one_at s [] n i x h k = absurd (omega arith)
one_at s (e ∷ l) zero i x h k = absurd (omega arith)
one_at s (e ∷ l) (suc n) zero x h k = refl
one_at s (e ∷ l) (suc n) (suc i) x h k = one_at s l n i x (omega arith) (omega arith)

pub declared-refused : (s : List ℕ) (d : Description) (i : ℕ) (f : Fault) {n k : ℕ} → d.told ≡ Some f → n ≡ fault_number f.kind → k ≡ refusal_code (placed n (fit_place f.place)) → show_declared s (fit_description d) i ≡ refuses k
unfolding show_declared unless_told fit_told
declared-refused s d i f h g e = rw (h, e, g)

pub declared-shown : (s : List ℕ) (d : Description) (i : ℕ) → d.told ≡ None → show_declared s (fit_description d) i ≡ entry_at s (take d.properties.n d.properties.items) i
unfolding show_declared unless_told fit_told
declared-shown s d i h = rw h
