-- A contents word of at most 127 is a selector, and the selector is that word; a greater one chooses nothing. Assumes nothing.
use mathlib.Core.Path.{◌≡◌, refl, ap, ◌∙◌}
use mathlib.Core.List.{List}
use Prim.Native.Nat.{ℕ, ◌≤◌, ◌<◌}
use native.Mathlib.Omega.{arith}
use borrow.Author.Tests.{le-leb, le-ltb, lt-ltb, leb-false}
use mathlib.Core.Bool.{Bool, true, false}
use lib.Dec.{ltb, leb}
use lib.ListN.{length, get_or}
use Rattle.standard.specs.Choice.{pick}
use Rattle.standard.specs.declared.Refusal.TheVariants.{BadValue}
use Rattle.value.specs.Steps.{counted, laid_of, choose}
use Rattle.value.specs.declared.laid.Laid.{Laid}
use Rattle.value.proofs.Walks.{counted-there}
use Rattle.standard.specs.declared.Refusal.{Refusal}
use Rattle.decode.specs.Unions.{selector_of}
use Rattle.decode.specs.declared.union_selector.UnionSelector.{UnionSelector}
use Rattle.std.specs.declared.result.Result.{Result}
use Rattle.std.specs.declared.result.Result.TheVariants.{Ok, Err}

selector-made : (k : ℕ) → k ≤ 127 → selector_of k ≡ Ok (record { 0 = k })
selector-made k h = rw (le-leb _ _ h)

abbrev byte_of : Result UnionSelector Refusal → ℕ
byte_of (Ok x) = x.0
byte_of (Err r) = 256

selector-word : (k : ℕ) (x : UnionSelector) → k ≤ 127 → Ok x ≡ selector_of k → x.0 ≡ k
selector-word k x h e = ap byte_of (e ∙ selector-made k h)

-- A word above 127 has no option among at most 128.
no-option : (k n : ℕ) → 127 < k → n ≤ 128 → ltb k n ≡ false
no-option k n h g = le-ltb k n (omega arith)

pub choose-wrong : (l : List ℕ) (a n : ℕ) (c : List ℕ) (i : ℕ) (r : Refusal) → n ≤ 128 → Err r ≡ counted c i 127 → Err r ≡ choose l a n c i
unfolding choose
choose-wrong l a n c i r g h = go (ltb i (length c)) (leb (get_or c i 0) 127) refl h
  where
    go : (p q : Bool) → leb (get_or c i 0) 127 ≡ q → Err r ≡ pick p (pick q (Ok (get_or c i 0)) (Err (BadValue 0 i))) (Err (BadValue 0 (length c))) →
        Err r ≡ pick p (laid_of l a n (get_or c i 0) i) (Err (BadValue 0 (length c)))
    go true true e h = cc
    go true false e h = let z : r ≡ BadValue 0 i = cc in rw (z, no-option (get_or c i 0) n (leb-false _ _ e) g)
    go false q e h = let z : r ≡ BadValue 0 (length c) = cc in rw z

pub choose-one : (l : List ℕ) (a n : ℕ) (c : List ℕ) (i k : ℕ) (x : UnionSelector) (r : Result Laid Refusal) → Ok k ≡ counted c i 127 →
    Ok x ≡ selector_of k → r ≡ laid_of l a n x.0 i → r ≡ choose l a n c i
unfolding choose
choose-one l a n c i k x r h s e =
    let q = counted-there c i 127 k h in
    rw (lt-ltb i (length c) q.0, ← q.1, ← selector-word k x q.2 s) e
