-- Tests of strings as they are sent, against tests of decoded ones: the first hold exactly where the others do and none of these strings has a backslash.
use Rattle.std.specs.Prelude.{None, Some, Err, Ok, Result}
use Prim.Native.Nat.{ℕ, zero, suc, ◌+◌, ◌-◌}
use mathlib.Core.Path.{◌≡◌, refl, sym, ap, ◌∙◌}
use mathlib.Core.List.{List, [], ◌∷◌, ◌++◌}
use mathlib.Core.Bool.{Bool, true, false, ◌&&◌, false≢true}
use lib.ListN.{take, drop}
use lib.Dec.{eqb}
use Rattle.text.specs.Bytes.{eq_bytes}
use Rattle.text.proofs.Bytes.{both}
use Rattle.json_text.specs.Strings as json
use Rattle.json_text.specs.Strings.{raw_bytes, is_plain}
use Rattle.json_text.specs.Members.{Member}
use Rattle.escapes.proofs.Theorems as escapes
use Rattle.fields.specs.Values.{is_string_at, is_array, members, elements}
use Rattle.accepted.specs.Once.{as_sent, if_whole, decoded, read_at, passes, is_read, Once, Absent, One, Twice, holds, all, one_more, is_named, field_in, field, optional, required, names_read}
use Rattle.accepted.specs.Rules.{is_text, array_of}
use Rattle.accepted.specs.Strings.{no_backslash, in_field, throughout, itself, names_of, element_strings}
use Rattle.accepted.proofs.Same.{first_holds, holds-both, first-all, all_both}

-- ---- no backslash

module _ (s : List ℕ) where
  abbrev pub Plain : List ℕ → Type 0
  Plain ks = no_backslash s ks ≡ true

  pub plain-none : Plain []
  unfolding no_backslash
  plain-none = refl

  pub plain-one : (k : ℕ) (ks : List ℕ) → is_plain (raw_bytes s k) ≡ true → Plain ks → Plain (k ∷ ks)
  unfolding no_backslash
  plain-one k ks p q = rw (p, no_backslash) q

  pub one_plain : (k : ℕ) (ks : List ℕ) → Plain (k ∷ ks) → (is_plain (raw_bytes s k) ≡ true) × Plain ks
  unfolding no_backslash
  one_plain k ks h = both (is_plain (raw_bytes s k))
      (λ e. (e, rw (e, no_backslash) at h))
      (λ e. absurd (false≢true (rw (e, no_backslash) at h)))

  pub plain-both : (ks ls : List ℕ) → Plain ks → Plain ls → Plain (ks ++ ls)
  plain-both [] ls p q = q
  plain-both (k ∷ ks) ls p q = let h = one_plain k ks p in plain-one k (ks ++ ls) h.0 (plain-both ks ls h.1 q)

  pub both-plain : (ks ls : List ℕ) → Plain (ks ++ ls) → Plain ks × Plain ls
  both-plain [] ls h = (plain-none, h)
  both-plain (k ∷ ks) ls h = let p = one_plain k (ks ++ ls) h in let q = both-plain ks ls p.1 in (plain-one k ks p.0 q.0, q.1)

-- a part of bytes without one has none
take-plain : (n : ℕ) (t : List ℕ) → is_plain t ≡ true → is_plain (take n t) ≡ true
unfolding is_plain
take-plain zero t e = refl
take-plain (suc n) [] e = refl
take-plain (suc n) (b ∷ t) e = both (eqb b 92)
    (λ q. absurd (false≢true (rw (q, is_plain) at e)))
    (λ q. rw (q, is_plain) (take-plain n t (rw (q, is_plain) at e)))

drop-plain : (n : ℕ) (t : List ℕ) → is_plain t ≡ true → is_plain (drop n t) ≡ true
unfolding is_plain
drop-plain zero t e = e
drop-plain (suc n) [] e = refl
drop-plain (suc n) (b ∷ t) e = both (eqb b 92)
    (λ q. absurd (false≢true (rw (q, is_plain) at e)))
    (λ q. drop-plain n t (rw (q, is_plain) at e))

module _ (s : List ℕ) (h : is_plain s ≡ true) where
  raw-plain : (k : ℕ) → is_plain (raw_bytes s k) ≡ true
  unfolding raw_bytes is_plain
  raw-plain k = go (json.string_at s k) refl
    where
      go : (r : Result ℕ ℕ) → json.string_at s k ≡ r → is_plain (raw_bytes s k) ≡ true
      go (Ok e) q = rw (q, raw_bytes) (take-plain ((e - 1) - (k + 1)) (drop (k + 1) s) (drop-plain (k + 1) s h))
      go (Err e) q = rw (q, raw_bytes)

  pub all_plain : (ks : List ℕ) → Plain s ks
  all_plain [] = plain-none s
  all_plain (k ∷ ks) = plain-one s k ks (raw-plain k) (all_plain ks)

-- ---- one test, and many

pub record Grows (s : List ℕ) (sent new : Bool) (ks : List ℕ) : Type 0 where
  pub stays : sent ≡ true → new ≡ true
  pub plain : sent ≡ true → Plain s ks
  pub back : new ≡ true → Plain s ks → sent ≡ true

pub record GrowAll (s : List ℕ) (sent new : List Bool) (ks : List ℕ) : Type 0 where
  pub stays : holds sent ≡ true → holds new ≡ true
  pub plain : holds sent ≡ true → Plain s ks
  pub back : holds new ≡ true → Plain s ks → holds sent ≡ true

module _ {s : List ℕ} where
  -- a test of no string
  pub alike : (t : Bool) → Grows s t t []
  alike t = record { stays = λ e. e; plain = λ e. plain-none s; back = λ e p. e }

  pub neither : (ks : List ℕ) → Grows s false false ks
  neither ks = record { stays = λ e. e; plain = λ e. absurd (false≢true e); back = λ e p. e }

  -- with one, before it
  pub grows_and : (b : Bool) {t u : Bool} {ks : List ℕ} → Grows s t u ks → Grows s (b && t) (b && u) ks
  grows_and true a = a
  grows_and false {ks = ks} a = neither ks

  pub grow_skip : (t : Bool) {ts us : List Bool} {ks : List ℕ} → GrowAll s ts us ks → GrowAll s (t ∷ ts) (t ∷ us) ks
  grow_skip t {ts} {us} {ks} a = record {
    stays = λ e. let h = first_holds t ts e in holds-both t us h.0 (a.stays h.1);
    plain = λ e. a.plain (first_holds t ts e).1;
    back = λ e p. let h = first_holds t us e in holds-both t ts h.0 (a.back h.1 p);
  }

  -- those that follow may need that there was no backslash before
  pub grow_where : {t u : Bool} {ks : List ℕ} → Grows s t u ks → {ts us : List Bool} {ls : List ℕ} → (Plain s ks → GrowAll s ts us ls) → GrowAll s (t ∷ ts) (u ∷ us) (ks ++ ls)
  grow_where {t} {u} {ks} a {ts} {us} {ls} b = record {
    stays = λ e. let h = first_holds t ts e in holds-both u us (a.stays h.0) ((b (a.plain h.0)).stays h.1);
    plain = λ e. let h = first_holds t ts e in let p = a.plain h.0 in plain-both s ks ls p ((b p).plain h.1);
    back = λ e p. let h = first_holds u us e in let q = both-plain s ks ls p in holds-both t ts (a.back h.0 q.0) ((b q.0).back h.1 q.1);
  }

  -- those that follow are the same then
  pub grow_last : {t u : Bool} {ks : List ℕ} → Grows s t u ks → (ts us : List Bool) → (Plain s ks → ts ≡ us) → GrowAll s (t ∷ ts) (u ∷ us) ks
  grow_last {t} {u} {ks} a ts us b = record {
    stays = λ e. let h = first_holds t ts e in holds-both u us (a.stays h.0) (sym (ap holds (b (a.plain h.0))) ∙ h.1);
    plain = λ e. a.plain (first_holds t ts e).0;
    back = λ e p. let h = first_holds u us e in holds-both t ts (a.back h.0 p) (ap holds (b p) ∙ h.1);
  }

  -- many as one
  pub together : {ts us : List Bool} {ks : List ℕ} → GrowAll s ts us ks → Grows s (holds ts) (holds us) ks
  together a = record { stays = a.stays; plain = a.plain; back = a.back }

  pub grow : {t u : Bool} {ks : List ℕ} → Grows s t u ks → {ts us : List Bool} {ls : List ℕ} → GrowAll s ts us ls → GrowAll s (t ∷ ts) (u ∷ us) (ks ++ ls)
  grow a b = grow_where a (λ p. b)

-- ---- a string

module _ (s : List ℕ) (k : ℕ) where
  plain-sent : is_plain (raw_bytes s k) ≡ true → read_at as_sent s k ≡ Some (raw_bytes s k)
  unfolding read_at as_sent
  plain-sent e = rw (e, as_sent)

  not-sent : is_plain (raw_bytes s k) ≡ false → read_at as_sent s k ≡ None
  unfolding read_at as_sent
  not-sent e = rw (e, as_sent)

  plain-decoded : is_plain (raw_bytes s k) ≡ true → read_at decoded s k ≡ Some (raw_bytes s k)
  unfolding read_at decoded if_whole
  plain-decoded e = ap if_whole (escapes.plain (raw_bytes s k) e)

  pub read_alike : is_plain (raw_bytes s k) ≡ true → read_at as_sent s k ≡ read_at decoded s k
  read_alike e = plain-sent e ∙ sym (plain-decoded e)

  sent-plain : (test : List ℕ → Bool) → passes test (read_at as_sent s k) ≡ true → is_plain (raw_bytes s k) ≡ true
  unfolding passes
  sent-plain test h = both (is_plain (raw_bytes s k)) (λ e. e) (λ e. absurd (false≢true (sym (ap (passes test) (not-sent e)) ∙ h)))

  pub string_grows : (test : List ℕ → Bool) → Grows s (passes test (read_at as_sent s k)) (passes test (read_at decoded s k)) (itself k)
  unfolding itself
  string_grows test = record {
    stays = λ e. sym (ap (passes test) (read_alike (sent-plain test e))) ∙ e;
    plain = λ e. plain-one s k [] (sent-plain test e) (plain-none s);
    back = λ e p. ap (passes test) (read_alike (one_plain s k [] p).0) ∙ e;
  }

  pub text_grows : (test : List ℕ → Bool) → Grows s (is_text test as_sent s k) (is_text test decoded s k) (itself k)
  unfolding is_text
  text_grows test = grows_and (is_string_at s k) (string_grows test)

-- ---- members

module _ (s : List ℕ) where
  pub all_grow : (sent new : Member → Bool) (strings : Member → List ℕ) → ((m : Member) → Grows s (sent m) (new m) (strings m)) → (ms : List Member) → Grows s (all sent ms) (all new ms) (throughout strings ms)
  unfolding all throughout
  all_grow sent new strings a [] = alike true
  all_grow sent new strings a (m ∷ ms) = go (all_grow sent new strings a ms)
    where
      go : Grows s (all sent ms) (all new ms) (throughout strings ms) → Grows s (all sent (m ∷ ms)) (all new (m ∷ ms)) (throughout strings (m ∷ ms))
      go b = record {
        stays = λ e. let h = first-all sent m ms e in all_both new m ms ((a m).stays h.0) (b.stays h.1);
        plain = λ e. let h = first-all sent m ms e in plain-both s (strings m) (throughout strings ms) ((a m).plain h.0) (b.plain h.1);
        back = λ e p. let h = first-all new m ms e in let q = both-plain s (strings m) (throughout strings ms) p in all_both sent m ms ((a m).back h.0 q.0) (b.back h.1 q.1);
      }

  pub names_grow : (at : ℕ) → Grows s (names_read as_sent s at) (names_read decoded s at) (names_of s at)
  unfolding names_read names_of
  names_grow at = all_grow (λ m. passes is_read (read_at as_sent s m.name)) (λ m. passes is_read (read_at decoded s m.name)) (λ m. itself m.name) (λ m. string_grows s m.name is_read) (members s at)

  pub ids_grow : (test : List ℕ → Bool) (k : ℕ) → Grows s (array_of (is_text test as_sent s) s k) (array_of (is_text test decoded s) s k) (element_strings s k)
  unfolding array_of element_strings
  ids_grow test k = grows_and (is_array s k) (all_grow (λ m. is_text test as_sent s m.value) (λ m. is_text test decoded s m.value) (λ m. itself m.value) (λ m. text_grows s m.value test) (elements s k))

  -- ---- a field

  module _ (sent new : ℕ → Bool) (strings : ℕ → List ℕ) (a : (k : ℕ) → Grows s (sent k) (new k) (strings k)) where
    pub optional_grows : (f : Once) → Grows s (optional sent f) (optional new f) (in_field strings f)
    unfolding optional in_field
    optional_grows Absent = alike true
    optional_grows (One k) = a k
    optional_grows Twice = alike false

    pub required_grows : (f : Once) → Grows s (required sent f) (required new f) (in_field strings f)
    unfolding required in_field
    required_grows Absent = alike false
    required_grows (One k) = a k
    required_grows Twice = alike false

  field_in_lem : (name : List ℕ) (f : Once) (ms : List Member) → Plain s (throughout (λ m. itself m.name) ms) → field_in as_sent s name f ms ≡ field_in decoded s name f ms
  unfolding field_in is_named throughout itself
  field_in_lem name f [] p = refl
  field_in_lem name f (m ∷ ms) p =
      let q = one_plain s m.name (throughout (λ m. itself m.name) ms) p in
      both (is_named decoded s name m)
      (λ e. let d = ap (passes (λ t. eq_bytes t name)) (read_alike s m.name q.0) ∙ e in rw (e, d, field_in) (field_in_lem name (one_more f m.value) ms q.1))
      (λ e. let d = ap (passes (λ t. eq_bytes t name)) (read_alike s m.name q.0) ∙ e in rw (e, d, field_in) (field_in_lem name f ms q.1))

  -- the same field both ways
  pub field_alike : (at : ℕ) → Plain s (names_of s at) → (name : List ℕ) → field as_sent s at name ≡ field decoded s at name
  unfolding field names_of
  field_alike at p name = field_in_lem name Absent (members s at) p
