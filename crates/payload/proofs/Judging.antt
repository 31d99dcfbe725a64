-- The nine datatypes by their codes.
use Rattle.std.specs.Prelude.{Option, None, Some}
use Prim.Native.Nat.{ℕ, suc, ◌+◌, ◌<◌, ◌≤◌}
use mathlib.Core.Path.{◌≡◌, refl, sym, ap, ◌∙◌}
use mathlib.Core.List.{List}
use mathlib.Core.Bool.{Bool, true, false, cond, and-false}
use lib.Dec.{leb}
use lib.ListN.{length, drop, get_or, drop_of_length-le}
use lib.Seq.{drop-cons}
use native.Mathlib.Numerals.{add-one}
use Rattle.payload.specs.declared.Datatype.{Datatype}
use Rattle.payload.specs.declared.Datatype.TheVariants.{String, Integer, Float, Boolean, Enum, Color, Datetime, Duration, Json}
use Rattle.payload.specs.Datatypes.{datatypes, named_in, code_of, datatype_at, name_of, datatype_named}
use Rattle.payload.specs.Formats.{is_format, kept_of, when_missing, kept_format, given_format}
use Rattle.text.specs.Bytes.{eq_bytes}
use Rattle.text.proofs.Bytes.{both}
use Rattle.text.specs.Utf8.{is_utf8}
use Rattle.json_text.specs.Value.{is_container}
use Rattle.payload.specs.Payloads.{is_json, is_of, may_be, is_payload, is_payload_under, is_payload_of}

-- the loop over the datatypes: those from i on are still to be asked
pub record Asking (s : List ℕ) (i : ℕ) : Type 0 where
  pub rest : named_in (drop i datatypes) s ≡ datatype_named s

pub asking : (s : List ℕ) → Asking s 0
unfolding datatype_named
asking s = record { rest = refl }

module _ {s : List ℕ} {i : ℕ} (so_far : Asking s i) where
  next : i < 9 → (d : Datatype) → d ≡ get_or datatypes i String → cond (eq_bytes s (name_of d)) (Some d) (named_in (drop (suc i) datatypes) s) ≡ datatype_named s
  next h d e = rw e (ap (λ (ds : List Datatype). named_in ds s) (sym (drop-cons datatypes i String h)) ∙ so_far.rest)

  module _ (h : i < 9) (d : Datatype) (is : d ≡ get_or datatypes i String) {b : Bool} (asked : b ≡ eq_bytes s (name_of d)) where
    pub named : b ≡ true → Some d ≡ datatype_named s
    named t = let e : eq_bytes s (name_of d) ≡ true = sym asked ∙ t in ap (λ (q : Bool). cond q (Some d) (named_in (drop (suc i) datatypes) s)) (sym e) ∙ next h d is

    pub other : b ≡ false → Asking s (i + 1)
    other t =
        let e : eq_bytes s (name_of d) ≡ false = sym asked ∙ t in
        record { rest = ap (λ (k : ℕ). named_in (drop k datatypes) s) (add-one i) ∙ ap (λ (q : Bool). cond q (Some d) (named_in (drop (suc i) datatypes) s)) (sym e) ∙ next h d is }

  pub unnamed : 9 ≤ i → None ≡ datatype_named s
  unnamed h = ap (λ (ds : List Datatype). named_in ds s) (sym (drop_of_length-le datatypes h)) ∙ so_far.rest

-- a json payload: UTF-8, and one array or object
pub json-cut : (s : List ℕ) → is_utf8 s ≡ false → false ≡ is_json s
unfolding is_json
json-cut s e = rw e

pub json-whole : (r : Bool) (s : List ℕ) → is_utf8 s ≡ true → r ≡ is_container s → r ≡ is_json s
unfolding is_json
json-whole r s e f = rw e f

-- a datatype's code gives it back
pub code-back : (d : Datatype) → datatype_at (code_of d) ≡ d
unfolding code_of datatype_at
code-back String = refl
code-back Integer = refl
code-back Float = refl
code-back Boolean = refl
code-back Enum = refl
code-back Color = refl
code-back Datetime = refl
code-back Duration = refl
code-back Json = refl

-- and so does its name
pub name_back : (d : Datatype) → datatype_named (name_of d) ≡ Some d
unfolding datatype_named eq_bytes
name_back String = refl
name_back Integer = refl
name_back Float = refl
name_back Boolean = refl
name_back Enum = refl
name_back Color = refl
name_back Datetime = refl
name_back Duration = refl
name_back Json = refl

-- what is kept of a format
module _ (d : Datatype) (f : List ℕ) (given : Bool) where
  pub format-missing : {o : Option (List ℕ)} → given ≡ false → o ≡ when_missing d → o ≡ kept_format d (given_format given f)
  unfolding kept_format
  format-missing e h = rw e h

-- a payload by a format that is given: by what is kept of it
kept-alike : (d : Datatype) (f s : List ℕ) → is_payload d f s ≡ is_payload d (kept_of d f) s
unfolding is_payload is_format is_of kept_of
kept-alike Integer f s = refl
kept-alike Float f s = refl
kept-alike Enum f s = refl
kept-alike Color f s = refl
kept-alike Boolean f s = refl
kept-alike String f s = refl
kept-alike Datetime f s = refl
kept-alike Duration f s = refl
kept-alike Json f s = refl

bad-format : (d : Datatype) (f s : List ℕ) → is_format d f ≡ false → is_payload d f s ≡ false
unfolding is_payload
bad-format d f s h = rw (h, and-false (may_be d s), and-false (leb (length s) 48), and-false (leb 1 (length s)))

pub payload-given : (d : Datatype) (f s : List ℕ) → is_payload d f s ≡ is_payload_of d (Some f) s
unfolding is_payload_of is_payload_under kept_format
payload-given d f s = both (is_format d f) (λ h. rw h (kept-alike d f s)) (λ h. rw h (bad-format d f s h))

-- and where none is given
module _ (d : Datatype) (s : List ℕ) where
  pub none-missing : None ≡ when_missing d → false ≡ is_payload_of d None s
  unfolding is_payload_of is_payload_under kept_format
  none-missing e = rw (← e)

  pub kept-missing : {f : List ℕ} {b : Bool} → Some f ≡ when_missing d → b ≡ is_payload d f s → b ≡ is_payload_of d None s
  unfolding is_payload_of is_payload_under kept_format
  kept-missing e g = g ∙ rw (← e)

module _ (d : Datatype) (f s : List ℕ) (given : Bool) {r : Bool} where
  pub judged-missing : given ≡ false → r ≡ is_payload_of d None s → r ≡ is_payload_of d (given_format given f) s
  judged-missing e h = rw e h

  pub judged-given : given ≡ true → r ≡ is_payload d f s → r ≡ is_payload_of d (given_format given f) s
  judged-given e h = rw e (h ∙ payload-given d f s)
