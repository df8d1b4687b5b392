-- What a value that is there tells of its parts.
use Rattle.std.proofs.Common.{◌≡◌, ◌∙◌, Bool, true, false, Option, None, Some, refl, ap}
use Rattle.std.specs.Prelude.{if◌then◌else◌}
use Rattle.log_lines.specs.Gives.{◌>>=◌, where_true}

pub record IsThen {X Y : Type 0} (given : Option X) (f : X → Option Y) (y : Y) : Type 0 where
  pub first : X
  pub is : given ≡ Some first
  pub result : f first ≡ Some y

pub then_is : {X Y : Type 0} (given : Option X) (f : X → Option Y) (y : Y) → (given >>= f) ≡ Some y → IsThen given f y
then_is None f y is = absurd cc
then_is (Some x) f y is = record { first = x; is = refl; result = is }

pub record IsWhere {X : Type 0} (condition : Bool) (given : Option X) (x : X) : Type 0 where
  pub test : condition ≡ true
  pub is : given ≡ Some x

pub where_is : {X : Type 0} (test : Bool) (value : Option X) (x : X) → where_true test value ≡ Some x → IsWhere test value x
where_is true value x is = record { test = refl; is = is }
where_is false value x is = absurd cc

-- one of two
pub record IsElse {X : Type 0} (condition : Bool) (one other : Option X) (x : X) : Type 0 where
  pub yes : condition ≡ true → one ≡ Some x
  pub no : condition ≡ false → other ≡ Some x

pub else_is : {X : Type 0} (test : Bool) (one other : Option X) (x : X) → (if test then one else other) ≡ Some x → IsElse test one other x
else_is true one other x is = record { yes = λ t. is; no = λ f. absurd cc }
else_is false one other x is = record { yes = λ t. absurd cc; no = λ f. is }

-- a part that is there, and what is read behind it
pub bind_is : {A B : Type 0} {o : Option A} {y : B} (f : A → Option B) (x : A) → o ≡ Some x → f x ≡ Some y → (o >>= f) ≡ Some y
bind_is {A} {B} {o} {y} f x is next = ap (λ (p : Option A). p >>= f) is ∙ next

pub bound : {A B : Type 0} {o : Option A} {f : A → Option B} {y : B} → (o >>= f) ≡ Some y → IsThen o f y
bound {A} {B} {o} {f} {y} is = then_is o f y is
