use native.Mathlib.Omega.{arith}
use mathlib.Core.Path.{refl}
use Rattle.fields.specs.Parts.{names_of, names4, names5, names6, names7, names8, names10}
use Rattle.fields.proofs.Numbers.{found, passed, none_left, of_length, no_length}
use Rattle.fields.proofs.Field.named.Goals as goal

pub returns-in-4 : goal.returns-in-4
unfolding names_of names4
returns-in-4 c = of_length _ 4 c.in-4.is (found _ _ _ _ c.if-same.ensures refl)

pub returns-in-4-2 : goal.returns-in-4-2
unfolding names_of names4
returns-in-4-2 c = of_length _ 4 c.in-4.is (passed _ _ _ _ c.if-same.ensures refl (found _ _ _ _ c.if-same-2.ensures refl))

pub returns-in-4-3 : goal.returns-in-4-3
unfolding names_of names4
returns-in-4-3 c = of_length _ 4 c.in-4.is (passed _ _ _ _ c.if-same.ensures refl (passed _ _ _ _ c.if-same-2.ensures refl (found _ _ _ _ c.if-same-3.ensures refl)))

pub returns-in-4-4 : goal.returns-in-4-4
unfolding names_of names4
returns-in-4-4 c = of_length _ 4 c.in-4.is (passed _ _ _ _ c.if-same.ensures refl (passed _ _ _ _ c.if-same-2.ensures refl (passed _ _ _ _ c.if-same-3.ensures refl (found _ _ _ _ c.if-same-4.ensures refl))))

pub returns-in-5 : goal.returns-in-5
unfolding names_of names5
returns-in-5 c = of_length _ 5 c.in-5.is (found _ _ _ _ c.if-same-5.ensures refl)

pub returns-in-5-2 : goal.returns-in-5-2
unfolding names_of names5
returns-in-5-2 c = of_length _ 5 c.in-5.is (passed _ _ _ _ c.if-same-5.ensures refl (found _ _ _ _ c.if-same-6.ensures refl))

pub returns-in-6 : goal.returns-in-6
unfolding names_of names6
returns-in-6 c = of_length _ 6 c.in-6.is (found _ _ _ _ c.if-same-7.ensures refl)

pub returns-in-6-2 : goal.returns-in-6-2
unfolding names_of names6
returns-in-6-2 c = of_length _ 6 c.in-6.is (passed _ _ _ _ c.if-same-7.ensures refl (found _ _ _ _ c.if-same-8.ensures refl))

pub returns-in-7 : goal.returns-in-7
unfolding names_of names7
returns-in-7 c = of_length _ 7 c.in-7.is (found _ _ _ _ c.if-same-9.ensures refl)

pub returns-in-8 : goal.returns-in-8
unfolding names_of names8
returns-in-8 c = of_length _ 8 c.in-8.is (found _ _ _ _ c.if-same-10.ensures refl)

pub returns-in-8-2 : goal.returns-in-8-2
unfolding names_of names8
returns-in-8-2 c = of_length _ 8 c.in-8.is (passed _ _ _ _ c.if-same-10.ensures refl (found _ _ _ _ c.if-same-11.ensures refl))

pub returns-in-8-3 : goal.returns-in-8-3
unfolding names_of names8
returns-in-8-3 c = of_length _ 8 c.in-8.is (passed _ _ _ _ c.if-same-10.ensures refl (passed _ _ _ _ c.if-same-11.ensures refl (found _ _ _ _ c.if-same-12.ensures refl)))

pub returns-in-8-4 : goal.returns-in-8-4
unfolding names_of names8
returns-in-8-4 c = of_length _ 8 c.in-8.is (passed _ _ _ _ c.if-same-10.ensures refl (passed _ _ _ _ c.if-same-11.ensures refl (passed _ _ _ _ c.if-same-12.ensures refl (found _ _ _ _ c.if-same-13.ensures refl))))

pub returns-in-10 : goal.returns-in-10
unfolding names_of names10
returns-in-10 c = of_length _ 10 c.in-10.is (found _ _ _ _ c.if-same-14.ensures refl)

pub returns-in-10-2 : goal.returns-in-10-2
unfolding names_of names10
returns-in-10-2 c = of_length _ 10 c.in-10.is (passed _ _ _ _ c.if-same-14.ensures refl (found _ _ _ _ c.if-same-15.ensures refl))

pub returns-in_default : goal.returns-in_default
unfolding names_of names4
returns-in_default c = of_length _ 4 c.in-4.is (passed _ _ _ _ c.if-same.ensures refl (passed _ _ _ _ c.if-same-2.ensures refl (passed _ _ _ _ c.if-same-3.ensures refl (passed _ _ _ _ c.if-same-4.ensures refl (none_left _)))))

pub returns-in_default-2 : goal.returns-in_default-2
unfolding names_of names5
returns-in_default-2 c = of_length _ 5 c.in-5.is (passed _ _ _ _ c.if-same-5.ensures refl (passed _ _ _ _ c.if-same-6.ensures refl (none_left _)))

pub returns-in_default-3 : goal.returns-in_default-3
unfolding names_of names6
returns-in_default-3 c = of_length _ 6 c.in-6.is (passed _ _ _ _ c.if-same-7.ensures refl (passed _ _ _ _ c.if-same-8.ensures refl (none_left _)))

pub returns-in_default-4 : goal.returns-in_default-4
unfolding names_of names7
returns-in_default-4 c = of_length _ 7 c.in-7.is (passed _ _ _ _ c.if-same-9.ensures refl (none_left _))

pub returns-in_default-5 : goal.returns-in_default-5
unfolding names_of names8
returns-in_default-5 c = of_length _ 8 c.in-8.is (passed _ _ _ _ c.if-same-10.ensures refl (passed _ _ _ _ c.if-same-11.ensures refl (passed _ _ _ _ c.if-same-12.ensures refl (passed _ _ _ _ c.if-same-13.ensures refl (none_left _)))))

pub returns-in_default-6 : goal.returns-in_default-6
unfolding names_of names10
returns-in_default-6 c = of_length _ 10 c.in-10.is (passed _ _ _ _ c.if-same-14.ensures refl (passed _ _ _ _ c.if-same-15.ensures refl (none_left _)))

pub returns-in_default-7 : goal.returns-in_default-7
returns-in_default-7 c = no_length _ (λ e. omega arith) (λ e. omega arith) (λ e. omega arith) (λ e. omega arith) (λ e. omega arith) (λ e. omega arith)
