-- What a refusal says settles the refusal of the code.
use Rattle.std.specs.Prelude.{cond, eqb}
use Prim.Native.Nat.{ℕ}
use mathlib.Core.Path.{◌≡◌, refl, ap}
use mathlib.Core.List.{List, [], ◌∷◌}
use Rattle.answer.specs.Answer.{Refusal}
use Rattle.answer.specs.declared.Refused.{Refused}
use Rattle.answer.specs.Refused.{refusal_of}

-- by its number alone
unfoldable numbered : ℕ → Refused
numbered n =
    cond (eqb n 1) Refused.BadHeader
    (cond (eqb n 2) Refused.BadEntry
    (cond (eqb n 3) Refused.NoSuchNumber
    (cond (eqb n 4) Refused.TooLong
    (cond (eqb n 5) Refused.BadOpening
    (cond (eqb n 6) Refused.NotSound
    (cond (eqb n 7) Refused.Earlier
    (cond (eqb n 8) Refused.OtherDomain
    (cond (eqb n 9) Refused.NoForm
    (cond (eqb n 10) Refused.NotUtf8
    (cond (eqb n 11) Refused.WrongFlag
    (cond (eqb n 12) Refused.NoDevice
    (cond (eqb n 13) Refused.Full
    (cond (eqb n 14) Refused.BadPayload
    (cond (eqb n 16) Refused.NoProperty
    (cond (eqb n 17) Refused.NotSettable Refused.NoStep)))))))))))))))

-- the refusal of the code that says this
pub refused_as : Refusal → Refused
unfolding numbered
refused_as r = numbered r.number

pub is_refused : (r : Refused) → r ≡ refused_as (refusal_of r)
unfolding numbered refused_as
is_refused Refused.BadHeader = refl
is_refused Refused.BadEntry = refl
is_refused Refused.NoSuchNumber = refl
is_refused Refused.TooLong = refl
is_refused Refused.BadOpening = refl
is_refused Refused.NotSound = refl
is_refused Refused.Earlier = refl
is_refused Refused.OtherDomain = refl
is_refused Refused.NoForm = refl
is_refused Refused.NotUtf8 = refl
is_refused Refused.WrongFlag = refl
is_refused Refused.NoDevice = refl
is_refused Refused.Full = refl
is_refused Refused.BadPayload = refl
is_refused Refused.NoProperty = refl
is_refused Refused.NotSettable = refl
is_refused Refused.NoStep = refl
