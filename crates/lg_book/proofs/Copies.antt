-- What is behind an optional reference.
use Rattle.std.proofs.Common.{◌≡◌, Option, Some, None, refl, Bor, Result, Ok, Err}
use Rattle.std.specs.Prelude.{is_some, IfSome, IfOk}
use Rattle.std.specs.Option.{option_copied}

pub some_copied : {A : Type 0} (o : Option (Bor A)) → is_some o ≡ is_some (option_copied o)
some_copied None = refl
some_copied (Some x) = refl

pub if_copied : {A : Type 0} (o : Option (Bor A)) (P : A → Type 0) → IfSome (option_copied o) P → IfSome o (λ x. P x.now)
if_copied None P h = tt
if_copied (Some x) P h = h

pub if_ok : {T E : Type 0} (r : Result T E) (P Q : T → Type 0) → ((x : T) → P x → Q x) → IfOk r P → IfOk r Q
if_ok (Ok x) P Q f h = f x h
if_ok (Err e) P Q f h = tt
