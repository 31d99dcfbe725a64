-- What each way through the code shows of the device's fields.
use Rattle.std.specs.Prelude.{None, Option, Some, Err, Ok, Result}
use Rattle.std.specs.List.{list_all}
use Prim.Native.Nat.{ℕ, ◌+◌, ◌-◌, ◌≤◌, ◌<◌}
use native.Mathlib.Omega.{arith}
use mathlib.Core.Path.{◌≡◌, refl, sym, ap, ◌∙◌}
use mathlib.Core.List.{List, [], ◌∷◌, ◌++◌}
use mathlib.Core.Bool.{Bool, true, false, not}
use lib.ListN.{length, take, drop, length-drop}
use lib.Seq.{take_all}
use borrow.Author.Tests.{le-leb, lt-leb}
use Rattle.text.specs.Bytes.{eq_bytes, slice}
use Rattle.text.specs.Ids.{is_id}
use Rattle.text.specs.Ascii.{ascii}
use Rattle.text.proofs.Bytes.{both}
use Rattle.text.proofs.Ids.{id-long}
use Rattle.numbers.specs.Digits.{is_digit}
use Rattle.numbers.specs.Integer.{integer, integer_read}
use Rattle.faults.specs.Faults.{earlier, least, other_rule, ◌otherwise◌, wrong_kind, missing}
use Rattle.faults.specs.declared.Fault.{Fault}
use Rattle.faults.proofs.Laws.{is-beside, earlier-first, earlier-none, earlier_comm, earlier_assoc, at-nothing, least-one, rule-holds, rule-broken, join-told, least-join}
use Rattle.json_text.specs.Strings.{raw_bytes, is_plain}
use Rattle.escapes.specs.Decode.{Decoded, whole, half}
use Rattle.fields.specs.Values.{value_bytes, decoded_at, string_bytes, is_string_at, is_number_at, DecodesAt}
use Rattle.fields.specs.Fields.{is_present, unless_half, decoded_faults, no_rule, close_at}
use Rattle.fields.proofs.Decoded.{plain-faults, whole-faults, decoded-faults, decoded-length, decoded-bytes, broken-faults, untold-whole, told-faults}
use Rattle.fields.proofs.Values.{kind-other, kind-right}
use Rattle.description.specs.declared.VersionRead.{VersionRead}
use Rattle.description.specs.Description.{all_digits, is_minor, is_homie, homie_rule, homie_faults, version_in, is_number, version_faults, relative_faults, root_faults, parent_rule, parent_faults}
use Rattle.description.proofs.Plain.{homie-plain}
use Rattle.description.specs.Parts.{ReadsVersion}

-- ---- digits

pub each-digit : (t : List ℕ) → list_all is_digit t ≡ all_digits t
unfolding all_digits
each-digit [] = refl
each-digit (b ∷ t) = both (is_digit b) (λ e. rw (e, all_digits) (each-digit t)) (λ e. rw (e, all_digits))

-- ---- homie

module _ (t : List ℕ) {u : List ℕ} {b : Bool} (x : u ≡ slice t 0 2) (p : b ≡ eq_bytes u (ascii "5.")) where
  pub homie-other : b ≡ false → false ≡ is_homie t
  unfolding is_homie
  homie-other e = rw (sym (p ∙ ap (λ (v : List ℕ). eq_bytes v (ascii "5.")) x) ∙ e)

  pub homie_minor : {v : List ℕ} {r : Bool} → b ≡ true → v ≡ slice t 2 (length t) → r ≡ is_minor v → r ≡ is_homie t
  unfolding is_homie
  homie_minor {v} e y z =
      let w : slice t 2 (length t) ≡ drop 2 t = take_all (length t - 2) (drop 2 t) (rw (length-drop 2 t) (omega arith)) in
      z ∙ ap is_minor (y ∙ w) ∙ rw (sym (p ∙ ap (λ (l : List ℕ). eq_bytes l (ascii "5.")) x) ∙ e)

-- ---- what is told of a required field

module _ (s : List ℕ) (at : ℕ) {f : Option ℕ} where
  pub homie-missing : {c : ℕ} → f ≡ None → c ≡ close_at s at → Some (missing c) ≡ least (homie_faults s at f)
  unfolding homie_faults
  homie-missing e q = rw (e, q) (least-one (missing (close_at s at)))

  module _ {k : ℕ} (e : f ≡ Some k) {b : Bool} (p : b ≡ is_string_at s k) where
    pub homie_kind : b ≡ false → Some (wrong_kind k) ≡ least (homie_faults s at f)
    unfolding homie_faults
    homie_kind x = rw e (kind-other k _ p x)

    module _ (x : b ≡ true) where
      pub homie_as : {r : Option Fault} → r ≡ least (decoded_faults s k (homie_rule k)) → r ≡ least (homie_faults s at f)
      unfolding homie_faults
      homie_as h = rw e (kind-right k _ p x h)

      -- by the bytes as sent: those of a version have no backslash
      module _ {t : List ℕ} {r : Bool} (y : t ≡ raw_bytes s k) (z : r ≡ is_homie t) where
        pub homie-right : r ≡ true → None ≡ least (homie_faults s at f)
        unfolding homie_rule
        homie-right w =
            let h : is_homie (raw_bytes s k) ≡ true = sym (z ∙ ap is_homie y) ∙ w in
            homie_as (rw (plain-faults s k (homie-plain (raw_bytes s k) h) (homie_rule k)) (rule-holds (is_homie (raw_bytes s k)) (other_rule k) h))

        pub homie_wrong : r ≡ false → {c : Bool} → c ≡ is_plain (raw_bytes s k) → c ≡ true → Some (other_rule k) ≡ least (homie_faults s at f)
        unfolding homie_rule
        homie_wrong w q i = homie_as (rw (plain-faults s k (sym q ∙ i) (homie_rule k)) (rule-broken (is_homie (raw_bytes s k)) (other_rule k) (sym (z ∙ ap is_homie y) ∙ w)))

-- ---- a string that is decoded

pub too_long : (s : List ℕ) (k : ℕ) {before after : List ℕ} {d : Result ℕ ℕ} → DecodesAt s k before after d → {n m : ℕ} → d ≡ Ok n → m < n → m < length (string_bytes s k)
too_long s k w q h = let l = decoded-length s k w q in omega (arith, l, h)

module _ (s : List ℕ) (k : ℕ) {before after : List ℕ} {d : Result ℕ ℕ} (w : DecodesAt s k before after d) (rules : List ℕ → List Fault) where
  pub half-told : {p : ℕ} → d ≡ Err p → Some (other_rule p) ≡ least (decoded_faults s k rules)
  half-told {p} q = rw (broken-faults s k w q rules) (least-one (other_rule p))

  module _ {n : ℕ} (q : d ≡ Ok n) where
    pub whole-told : n ≤ length before → {t : List ℕ} {r : Option Fault} → t ≡ slice after 0 n → r ≡ least (rules t) → r ≡ least (decoded_faults s k rules)
    whole-told h {t} x y = y ∙ rw (decoded-bytes s k w q h x, decoded-faults s k w q rules)

    pub long-told : Some (other_rule k) ≡ least (rules (string_bytes s k)) → Some (other_rule k) ≡ least (decoded_faults s k rules)
    long-told h = rw (decoded-faults s k w q rules) h

homie-short : (t : List ℕ) → 8 < length t → is_homie t ≡ false
unfolding is_homie is_minor
homie-short t h = both (eq_bytes (take 2 t) (ascii "5."))
    (λ e. rw (e, le-leb 1 (length (drop 2 t)) (rw (length-drop 2 t) (omega arith)), lt-leb (length (drop 2 t)) 3 (rw (length-drop 2 t) (omega arith))) refl)
    (λ e. rw e refl)

pub homie-long : (k : ℕ) (t : List ℕ) → 8 < length t → Some (other_rule k) ≡ least (homie_rule k t)
unfolding homie_rule
homie-long k t h = rule-broken (is_homie t) (other_rule k) (homie-short t h)

pub homie_yes : (k : ℕ) (t : List ℕ) {r : Bool} → r ≡ is_homie t → r ≡ true → None ≡ least (homie_rule k t)
unfolding homie_rule
homie_yes k t z w = rule-holds (is_homie t) (other_rule k) (sym z ∙ w)

pub homie_no : (k : ℕ) (t : List ℕ) {r : Bool} → r ≡ is_homie t → r ≡ false → Some (other_rule k) ≡ least (homie_rule k t)
unfolding homie_rule
homie_no k t z w = rule-broken (is_homie t) (other_rule k) (sym z ∙ w)

-- ---- the version

-- something is told, so no version is promised
version-told : (s : List ℕ) (at : ℕ) {f : Option ℕ} {r : VersionRead} {x : Fault} → r.told ≡ Some x → Some x ≡ least (version_faults s at f) → ReadsVersion s at f r
version-told s at e h = record { told = e ∙ h; value = λ z. absurd (at-nothing (sym e ∙ z)) }

-- what was read of a value is what it holds
held : (s : List ℕ) (k : ℕ) {v : List ℕ} → v ≡ value_bytes s k → (i : Option ℕ) → integer_read i ≡ integer v → integer (value_bytes s k) ≡ integer_read i
held s k y i z = ap integer (sym y) ∙ sym z

module _ (s : List ℕ) (at : ℕ) {f : Option ℕ} {r : VersionRead} where
  pub version-missing : {c : ℕ} → f ≡ None → c ≡ close_at s at → r.told ≡ Some (missing c) → ReadsVersion s at f r
  unfolding version_faults
  version-missing e q t = version-told s at t (rw (e, q) (least-one (missing (close_at s at))))

  module _ {k : ℕ} (e : f ≡ Some k) {b : Bool} (p : b ≡ is_number_at s k) where
    pub version_kind : b ≡ false → r.told ≡ Some (wrong_kind k) → ReadsVersion s at f r
    unfolding version_faults
    version_kind x t = version-told s at t (rw e (kind-other k _ p x))

    module _ {v : List ℕ} (x : b ≡ true) (y : v ≡ value_bytes s k) (i : Option ℕ) (z : integer_read i ≡ integer v) where
      pub version_wrong : i ≡ None → r.told ≡ Some (other_rule k) → ReadsVersion s at f r
      unfolding version_faults is_number
      version_wrong q t = version-told s at t (rw e (kind-right k _ p x (rule-broken (is_number (integer (value_bytes s k))) (other_rule k) (ap is_number (held s k y i z ∙ ap integer_read q)))))

      pub version-right : {n : ℕ} → i ≡ Some n → r.told ≡ None → r.value ≡ n → ReadsVersion s at f r
      unfolding version_faults version_in is_number
      version-right q t w = record {
        told = t ∙ rw e (kind-right k _ p x (rule-holds (is_number (integer (value_bytes s k))) (other_rule k) (ap is_number (held s k y i z ∙ ap integer_read q))));
        value = λ u. rw (e, w) (held s k y i z ∙ ap integer_read q);
      }

-- ---- root and parent

-- a second fault at one place, of the same number
twice : (k : ℕ) (t : Bool) → earlier (least (t otherwise other_rule k)) (Some (other_rule k)) ≡ Some (other_rule k)
unfolding earlier
twice k t = both t
    (λ e. ap (λ (u : Option Fault). earlier u (Some (other_rule k))) (sym (rule-holds t (other_rule k) e)))
    (λ e. ap (λ (u : Option Fault). earlier u (Some (other_rule k))) (sym (rule-broken t (other_rule k) e)) ∙ earlier-first (other_rule k) (other_rule k) (sym (is-beside (other_rule k) (other_rule k) refl)))

module _ (own : List ℕ) (k : ℕ) (t : List ℕ) {b : Bool} (p : b ≡ is_id t) where
  pub relative_no-id : b ≡ false → Some (other_rule k) ≡ least (relative_faults own k t)
  unfolding relative_faults
  relative_no-id e =
      sym (twice k (not (eq_bytes t own))) ∙
      (flip (least (not (eq_bytes t own) otherwise other_rule k)) ∙
      join-told (is_id t otherwise other_rule k) (not (eq_bytes t own) otherwise other_rule k) (rule-broken (is_id t) (other_rule k) (sym p ∙ e)) refl)
    where
      flip : (u : Option Fault) → earlier u (Some (other_rule k)) ≡ earlier (Some (other_rule k)) u
      flip u = earlier_comm u (Some (other_rule k))

  module _ (e : b ≡ true) {c : Bool} (q : c ≡ eq_bytes t own) where
    pub relative-own : c ≡ true → Some (other_rule k) ≡ least (relative_faults own k t)
    unfolding relative_faults earlier
    relative-own y = join-told (is_id t otherwise other_rule k) (not (eq_bytes t own) otherwise other_rule k) (rule-holds (is_id t) (other_rule k) (sym p ∙ e)) (rule-broken (not (eq_bytes t own)) (other_rule k) (ap not (sym q ∙ y)))

    pub relative-other : c ≡ false → None ≡ least (relative_faults own k t)
    unfolding relative_faults earlier
    relative-other y = join-told (is_id t otherwise other_rule k) (not (eq_bytes t own) otherwise other_rule k) (rule-holds (is_id t) (other_rule k) (sym p ∙ e)) (rule-holds (not (eq_bytes t own)) (other_rule k) (ap not (sym q ∙ y)))

pub relative-long : (own : List ℕ) (k : ℕ) (t : List ℕ) → 32 < length t → Some (other_rule k) ≡ least (relative_faults own k t)
relative-long own k t h = relative_no-id own k t {b = false} (sym (id-long t h)) refl

pub relative-plain : (own s : List ℕ) (k : ℕ) {c : Bool} → c ≡ is_plain (raw_bytes s k) → c ≡ true → {t : List ℕ} {r : Option Fault} → t ≡ raw_bytes s k → r ≡ least (relative_faults own k t) → r ≡ least (decoded_faults s k (relative_faults own k))
relative-plain own s k q i x h = h ∙ rw (x, plain-faults s k (sym q ∙ i) (relative_faults own k))

module _ (own s : List ℕ) {f : Option ℕ} where
  pub root-absent : f ≡ None → None ≡ least (root_faults own s f)
  unfolding root_faults least
  root-absent e = rw e

  module _ {k : ℕ} (e : f ≡ Some k) {b : Bool} (p : b ≡ is_string_at s k) where
    pub root_kind : b ≡ false → Some (wrong_kind k) ≡ least (root_faults own s f)
    unfolding root_faults
    root_kind x = rw e (kind-other k _ p x)

    pub root-right : {t : Option Fault} → b ≡ true → t ≡ least (decoded_faults s k (relative_faults own k)) → t ≡ least (root_faults own s f)
    unfolding root_faults
    root-right x h = rw e (kind-right k _ p x h)

-- where there is a root, nothing more is asked of the parent
rooted : (own s : List ℕ) (k : ℕ) → least (decoded_faults s k (relative_faults own k)) ≡ least (decoded_faults s k (parent_rule own true k))
unfolding decoded_faults unless_half parent_rule
rooted own s k = go (decoded_at s k)
  where
    go : (d : Decoded) → least (unless_half d k (relative_faults own k)) ≡ least (unless_half d k (parent_rule own true k))
    go (whole t) = sym (earlier-none (least (relative_faults own k t))) ∙ join-told (relative_faults own k t) (true otherwise other_rule k) refl (rule-holds true (other_rule k) refl)
    go (half p) = refl

-- and without one its bytes are at fault
rootless : (own : List ℕ) (k : ℕ) (t : List ℕ) → Some (other_rule k) ≡ least (parent_rule own false k t)
unfolding parent_rule relative_faults
rootless own k t =
    let fa = is_id t otherwise other_rule k in
    let fo = not (eq_bytes t own) otherwise other_rule k in
    sym (twice k (is_id t)) ∙
    (ap (earlier (least fa)) (sym (twice k (not (eq_bytes t own)))) ∙
    (sym (earlier_assoc (least fa) (least fo) (Some (other_rule k))) ∙
    join-told (fa ++ fo) (false otherwise other_rule k) (sym (least-join fa fo)) (rule-broken false (other_rule k) refl)))

module _ (own s : List ℕ) (k : ℕ) {h : Option Fault} (w : h ≡ least (decoded_faults s k no_rule)) where
  pub rootless-whole : h ≡ None → Some (other_rule k) ≡ least (decoded_faults s k (parent_rule own false k))
  rootless-whole q = rw (whole-faults s k (parent_rule own false k) (untold-whole s k w q)) (rootless own k (string_bytes s k))

  pub rootless-half : {x : Fault} → h ≡ Some x → Some x ≡ least (decoded_faults s k (parent_rule own false k))
  rootless-half {x} q = rw (told-faults s k w q (parent_rule own false k)) (least-one x)

module _ (own s : List ℕ) (root : Option ℕ) {f : Option ℕ} where
  pub parent-absent : f ≡ None → None ≡ least (parent_faults own s root f)
  unfolding parent_faults least
  parent-absent e = rw e

  module _ {k : ℕ} (e : f ≡ Some k) {b : Bool} (p : b ≡ is_string_at s k) where
    pub parent_kind : b ≡ false → Some (wrong_kind k) ≡ least (parent_faults own s root f)
    unfolding parent_faults
    parent_kind x = rw e (kind-other k _ p x)

    module _ (x : b ≡ true) {c : Bool} (q : c ≡ is_present root) where
      pub parent_alone : {t : Option Fault} → c ≡ false → t ≡ least (decoded_faults s k (parent_rule own false k)) → t ≡ least (parent_faults own s root f)
      unfolding parent_faults
      parent_alone y h = rw (e, sym q ∙ y) (kind-right k _ p x h)

      pub parent-right : {t : Option Fault} → c ≡ true → t ≡ least (decoded_faults s k (relative_faults own k)) → t ≡ least (parent_faults own s root f)
      unfolding parent_faults
      parent-right y h = rw (e, sym q ∙ y) (kind-right k _ p x (h ∙ rooted own s k))
