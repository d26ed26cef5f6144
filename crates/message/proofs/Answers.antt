-- What an accepted answer says of the tests and answers that it is made of. Assumes nothing.
use mathlib.Core.Path.{◌≡◌, refl, sym, ap}
use mathlib.Core.Bool.{Bool, true, false}
use Prim.Native.Nat.{ℕ}
use native.Mathlib.Nat.{add_assoc}
use native.Mathlib.Omega.{arith}
use Rattle.standard.specs.Choice.{pick}
use Rattle.standard.specs.declared.Refusal.{Refusal}
use Rattle.message.specs.Read.{raw_bytes_lem, one, plus, and_then, built, of_vector_lem, of_list, of_elements}
use Rattle.message.specs.Steps.{IsAccepted}
use Rattle.message.specs.declared.Counts.{Counts}
use Rattle.std.specs.Prelude.{⊤, IsErrAnd}
use Rattle.std.specs.declared.result.Result.{Result}
use Rattle.std.specs.declared.result.Result.TheVariants.{Ok, Err}
use Rattle.message.specs.declared.RefusedAt.{RefusedAt}

-- no item
abbrev pub none : Counts
none = record { records = 0; words = 0; bytes = 0 }

-- one item
abbrev pub single : ℕ → ℕ → Counts
single w b = record { records = 1; words = w; bytes = b }

pub not_accepted : {A : Type 0} (r : RefusedAt) (c : Counts) → Err r ≡ Ok c → A
not_accepted r c e = let z : ◌≡◌ {A = ℕ} 0 1 = cc in absurd (omega arith)

pub accepted-same : (c d : Counts) → ◌≡◌ {A = Result Counts RefusedAt} (Ok c) (Ok d) → c ≡ d
accepted-same c d e = cc

-- What `?` hands on is the refusal that it met.
pub handed : {T E : Type 0} (r : Result T E) (e : E) → IsErrAnd r (λ y. y ≡ e) → r ≡ Err e
handed (Ok x) e h = absurd h
handed (Err y) e h = ap Err h

-- A test: which of its sides gives what is asked, where the other does not.
pub pick-left : {A : Type 0} (q : Bool) (x y z : A) → (y ≡ z → ⊥) → pick q x y ≡ z → (q ≡ true) × (x ≡ z)
pick-left true x y z n e = (refl, e)
pick-left false x y z n e = absurd (n e)

pub pick_right : {A : Type 0} (q : Bool) (x y z : A) → (x ≡ z → ⊥) → pick q x y ≡ z → (q ≡ false) × (y ≡ z)
pick_right true x y z n e = absurd (n e)
pick_right false x y z n e = (refl, e)

pub pick-cases : {A B : Type 0} (q : Bool) (x y z : A) → (q ≡ true → x ≡ z → B) → (q ≡ false → y ≡ z → B) → pick q x y ≡ z → B
pick-cases true x y z f g e = f refl e
pick-cases false x y z f g e = g refl e

-- What both sides have, as far as the test lets them, the choice has.
pub pick-holds : {A : Type 0} (P : A → Type 0) (q : Bool) (x y : A) → (q ≡ true → P x) → (q ≡ false → P y) → P (pick q x y)
pick-holds P true x y f g = f refl
pick-holds P false x y f g = g refl

pub left-accepted :
    (q : Bool) (x : Result Counts RefusedAt) (r : RefusedAt) (c : Counts) → pick q x (Err r) ≡ Ok c → (q ≡ true) × (x ≡ Ok c)
left-accepted q x r c = pick-left q x (Err r) (Ok c) (not_accepted r c)

pub right_accepted :
    (q : Bool) (x : Result Counts RefusedAt) (r : RefusedAt) (c : Counts) → pick q (Err r) x ≡ Ok c → (q ≡ false) × (x ≡ Ok c)
right_accepted q x r c = pick_right q (Err r) x (Ok c) (not_accepted r c)

pub leaf-accepted :
    (q : Bool) (w n : ℕ) (r : RefusedAt) (c : Counts) → pick q (one w n) (Err r) ≡ Ok c
    → (q ≡ true) × (c ≡ single w n)
leaf-accepted q w n r c e =
    let p = left-accepted q (one w n) r c e in
    (p.0, sym (accepted-same (single w n) c p.1))

-- One answer behind another.
pub then_accepted :
    (x y : Result Counts RefusedAt) (c : Counts) → and_then x y ≡ Ok c
    → (a : Counts) × (b : Counts) × (x ≡ Ok a) × (y ≡ Ok b) × (c ≡ plus a b)
then_accepted (Err r) y c e = not_accepted r c e
then_accepted (Ok a) (Err r) c e = not_accepted r c e
then_accepted (Ok a) (Ok b) c e = (a, b, refl, refl, sym (accepted-same (plus a b) c e))

pub then_accepts : (x y : Result Counts RefusedAt) (a b : Counts) → x ≡ Ok a → y ≡ Ok b → and_then x y ≡ Ok (plus a b)
then_accepts x y a b e f = rw (e, f)

-- counts a, known, before an answer
pub behind-accepted : (a : Counts) (y : Result Counts RefusedAt) (c : Counts) → and_then (Ok a) y ≡ Ok c → (b : Counts) × (y ≡ Ok b) × (c ≡ plus a b)
behind-accepted a (Err r) c e = not_accepted r c e
behind-accepted a (Ok b) c e = (b, refl, sym (accepted-same (plus a b) c e))

pub built-accepted : (d : Result ⊤ Refusal) (t s : ℕ) (x : Result Counts RefusedAt) (c : Counts) → built d t s x ≡ Ok c → (d ≡ Ok tt) × (x ≡ Ok c)
built-accepted (Err r) t s x c e = not_accepted _ c e
built-accepted (Ok tt) t s x c e = (refl, e)

pub vector-accepted : (d : Result ⊤ Refusal) (t s n : ℕ) (c : Counts) → of_vector_lem d t s n ≡ Ok c → (d ≡ Ok tt) × (c ≡ single 0 n)
vector-accepted (Err r) t s n c e = not_accepted _ c e
vector-accepted (Ok tt) t s n c e = (refl, sym (accepted-same (single 0 n) c e))

pub list-accepted : (d : Result ℕ Refusal) (t s : ℕ) (c : Counts) → of_list d t s ≡ Ok c → (k : ℕ) × (d ≡ Ok k) × (c ≡ single 1 (raw_bytes_lem k))
list-accepted (Err r) t s c e = not_accepted _ c e
list-accepted (Ok k) t s c e = (k, refl, sym (accepted-same (single 1 (raw_bytes_lem k)) c e))

pub many-accepted :
    (d : Result ℕ Refusal) (t s : ℕ) (x : ℕ → Result Counts RefusedAt) (c : Counts) → of_elements d t s x ≡ Ok c → (n : ℕ) × (d ≡ Ok n) × (x n ≡ Ok c)
many-accepted (Err r) t s x c e = not_accepted _ c e
many-accepted (Ok n) t s x c e = (n, refl, e)

-- An acceptance without its counts.
pub then_both : (x y : Result Counts RefusedAt) → IsAccepted (and_then x y) → IsAccepted x × IsAccepted y
then_both (Ok c) (Ok d) h = (tt, tt)
then_both (Ok c) (Err r) h = absurd h
then_both (Err r) y h = absurd h

pub built-both : (d : Result ⊤ Refusal) (t s : ℕ) (x : Result Counts RefusedAt) → IsAccepted (built d t s x) → (d ≡ Ok tt) × IsAccepted x
built-both (Ok tt) t s x h = (refl, h)
built-both (Err r) t s x h = absurd h

pub many-both : (d : Result ℕ Refusal) (t s : ℕ) (x : ℕ → Result Counts RefusedAt) → IsAccepted (of_elements d t s x) → (n : ℕ) × (d ≡ Ok n) × IsAccepted (x n)
many-both (Ok n) t s x h = (n, refl, h)
many-both (Err r) t s x h = absurd h

-- Laws of adding up.
pub plus_assoc : (a b c : Counts) → plus (plus a b) c ≡ plus a (plus b c)
plus_assoc a b c = simp add_assoc

pub then_assoc : (x y z : Result Counts RefusedAt) → and_then (and_then x y) z ≡ and_then x (and_then y z)
then_assoc (Err r) y z = refl
then_assoc (Ok a) (Err r) z = refl
then_assoc (Ok a) (Ok b) (Err r) = refl
then_assoc (Ok a) (Ok b) (Ok c) = ap Ok (plus_assoc a b c)
