-- Which messages are special forms.
use Rattle.std.proofs.Common.{◌≡◌, refl, sym, subst, ℕ, nat_eq, ◌&&◌, length, codes, Bool, true, false, Some}
use Rattle.std.proofs.lemmas.Bool.{eqb-true}
use Rattle.object_programs.specs.st_tree.Trees.{block, Closure, closure, Expression, send}
use Rattle.tree_meaning.specs.Forms.{takes, is_block_of, form_of, loop_of}
use Rattle.tree_meaning.specs.Reading.{a_block, one_argument, two_arguments}
use Rattle.tree_meaning.specs.declared.name.Singleton.TheVariants as singleton
use Rattle.tree_meaning.specs.declared.form.Form.TheVariants.{OneArm, TwoArms, Counting, Repeating}

pub if_true : (arm : Closure) → takes 0 arm ≡ true
    → form_of (codes "ifTrue:") (one_argument (a_block arm)) ≡ OneArm true singleton.Nil
unfolding form_of
if_true (closure params temps body) is = rw is refl

pub if_false : (arm : Closure) → takes 0 arm ≡ true
    → form_of (codes "ifFalse:") (one_argument (a_block arm)) ≡ OneArm false singleton.Nil
unfolding form_of
if_false (closure params temps body) is = rw is refl

pub and_form : (arm : Closure) → takes 0 arm ≡ true
    → form_of (codes "and:") (one_argument (a_block arm)) ≡ OneArm true singleton.False
unfolding form_of
and_form (closure params temps body) is = rw is refl

pub or_form : (arm : Closure) → takes 0 arm ≡ true
    → form_of (codes "or:") (one_argument (a_block arm)) ≡ OneArm false singleton.True
unfolding form_of
or_form (closure params temps body) is = rw is refl

pub repeats : (arm : Closure) → takes 0 arm ≡ true
    → form_of (codes "timesRepeat:") (one_argument (a_block arm)) ≡ Repeating
unfolding form_of
repeats (closure params temps body) is = rw is refl

pub true_first : (arm other : Closure) → takes 0 arm ≡ true → takes 0 other ≡ true
    → form_of (codes "ifTrue:ifFalse:") (two_arguments (a_block arm) (a_block other)) ≡ TwoArms true
unfolding form_of
true_first (closure params temps body) (closure others more rest) is also = rw (is, also) refl

pub false_first : (arm other : Closure) → takes 0 arm ≡ true → takes 0 other ≡ true
    → form_of (codes "ifFalse:ifTrue:") (two_arguments (a_block arm) (a_block other)) ≡ TwoArms false
unfolding form_of
false_first (closure params temps body) (closure others more rest) is also = rw (is, also) refl

one_is_not_none : (n : ℕ) → nat_eq n 1 ≡ true → nat_eq n 0 ≡ false
one_is_not_none n is = subst (λ m. nat_eq m 0 ≡ false) (sym (eqb-true n 1 is)) refl

and_false : (b : Bool) → (b && false) ≡ false
and_false true = refl
and_false false = refl

pub counts : (limit : Expression) (body : Closure) → takes 1 body ≡ true
    → form_of (codes "to:do:") (two_arguments limit (a_block body)) ≡ Counting
unfolding form_of
counts limit (closure params temps body) is =
    rw (one_is_not_none (length params) is, is, and_false (is_block_of 0 limit)) refl

pub while_true : (condition body : Closure) → takes 0 condition ≡ true → takes 0 body ≡ true
    → loop_of (block condition) (send (codes "whileTrue:") (one_argument (a_block body))) ≡ Some true
unfolding loop_of
while_true (closure params temps body) (closure others more rest) is also = rw (is, also) refl

pub while_false : (condition body : Closure) → takes 0 condition ≡ true → takes 0 body ≡ true
    → loop_of (block condition) (send (codes "whileFalse:") (one_argument (a_block body))) ≡ Some false
unfolding loop_of
while_false (closure params temps body) (closure others more rest) is also = rw (is, also) refl
