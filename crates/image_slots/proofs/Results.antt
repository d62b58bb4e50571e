-- What is said of a result's value, taken further.
use Rattle.std.proofs.Common.{Result, Ok, Err, IfOk, IfErr, OnOk}

pub IfOk-more : {T E : Type 0} (r : Result T E) (P Q : T → Type 0) → IfOk r P → ((x : T) → P x → Q x) → IfOk r Q
IfOk-more (Ok x) P Q p more = more x p
IfOk-more (Err e) P Q p more = p

pub IfErr-more : {T E : Type 0} (r : Result T E) (P Q : E → Type 0) → IfErr r P → ((e : E) → P e → Q e) → IfErr r Q
IfErr-more (Ok x) P Q p more = p
IfErr-more (Err e) P Q p more = more e p

pub IfOk-both : {T E : Type 0} (r : Result T E) (P Q R : T → Type 0) → IfOk r P → IfOk r Q → ((x : T) → P x → Q x → R x) → IfOk r R
IfOk-both (Ok x) P Q R p q both = both x p q
IfOk-both (Err e) P Q R p q both = p

-- what holds in any case holds on an Ok
pub OnOk-always : {T E : Type 0} (r : Result T E) (P : Type 0) → P → OnOk r P
OnOk-always (Ok x) P p = p
OnOk-always (Err e) P p = record {}
