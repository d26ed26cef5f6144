-- A contract that is an equation with a definition has one answer only. Assumes nothing.
use mathlib.Core.Path.{◌≡◌, sym, ◌∙◌}
use mathlib.Core.List.{List}
use Prim.Native.Nat.{ℕ}
use contract.Lifetimes.{Lfts}
use denote.Triple.Clauses.{AtExit}
use borrow.Fn.Kind.{ParamKind, ResultKind}
use borrow.Fn.Kinds.{Dens, Out, res_t, ended_of}

-- d is the definition applied to the arguments at entry; x and y are two answers, or two buffers at exit, that meet the contract.
pub only_answer : {A : Type 0} (d x y : A) → x ≡ d → y ≡ d → x ≡ y
only_answer d x y p q = p ∙ sym q

-- Of a function's own postcondition: two answers that meet it for the same arguments are equal, whatever there is at exit.
abbrev pub Only : {n : ℕ} (ps : List (ParamKind n)) (r : ResultKind n) → Out n ps r → Type 0
Only {n} ps r post =
    (κs : Lfts n) (a : Dens κs ps) (x y : (res_t r κs).Denot) (e f : AtExit (ended_of n ps r) κs) → post κs a x e → post κs a y f → x ≡ y
