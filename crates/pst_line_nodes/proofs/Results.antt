-- What holds of a refusal.
use Rattle.std.proofs.Common.{Result, Ok, Err, Option, Some, None, refl}
use Rattle.std.specs.Prelude.{OnErr, OnOk, IsOk, IfOk, IfSome, IfNone}

pub on_err : {A E : Type 0} (r : Result A E) (P : Type 0) → P → OnErr r P
on_err (Ok a) P p = tt
on_err (Err e) P p = p

pub on_ok_map : {A E : Type 0} (r : Result A E) (P Q : Type 0) → (P → Q) → OnOk r P → OnOk r Q
on_ok_map (Ok a) P Q f p = f p
on_ok_map (Err e) P Q f p = tt

pub on_err_map : {A E : Type 0} (r : Result A E) (P Q : Type 0) → (P → Q) → OnErr r P → OnErr r Q
on_err_map (Ok a) P Q f p = tt
on_err_map (Err e) P Q f p = f p

pub ok_unless : {A E : Type 0} (r : Result A E) (P : Type 0) → OnErr r P → (P → ⊥) → IsOk r
ok_unless (Ok a) P h n = refl
ok_unless (Err e) P h n = absurd (n h)

pub either_way : {A E : Type 0} (r : Result A E) (P : Type 0) → OnOk r P → OnErr r P → P
either_way (Ok a) P p q = p
either_way (Err e) P p q = q

pub if_ok_map : {A E : Type 0} (r : Result A E) (P Q : A → Type 0) → ((a : A) → P a → Q a) → IfOk r P → IfOk r Q
if_ok_map (Ok a) P Q f p = f a p
if_ok_map (Err e) P Q f p = tt

pub if_some_map : {A : Type 0} (r : Option A) (P Q : A → Type 0) → ((a : A) → P a → Q a) → IfSome r P → IfSome r Q
if_some_map (Some a) P Q f p = f a p
if_some_map None P Q f p = tt

pub if_none_map : {A : Type 0} (r : Option A) (P Q : Type 0) → (P → Q) → IfNone r P → IfNone r Q
if_none_map (Some a) P Q f p = tt
if_none_map None P Q f p = f p
