-- What an item that is there says of its range. Assumes nothing.
use mathlib.Core.Path.{◌≡◌, refl}
use mathlib.Core.Bool.{Bool, true, false}
use Prim.Native.Nat.{ℕ, ◌≤◌, ◌<◌}
use borrow.Author.Tests.{ltb-true, ltb-false}
use lib.ListN.{get_or}
use lib.Dec.{ltb}
use Rattle.standard.specs.Choice.{pick}
use Rattle.standard.specs.declared.Refusal.TheVariants.{BadState}
use Rattle.decode.specs.Reader.{item_told_lem}
use Rattle.decode.specs.declared.decoder.SszDecoder.{SszDecoder}
use Rattle.decode.proofs.Register.{refused_next, past}
use Rattle.std.specs.declared.result.Result.{Result}
use Rattle.std.specs.declared.result.Result.TheVariants.{Ok, Err}
use Rattle.std.specs.Prelude.{⊤}
use Rattle.standard.specs.declared.Refusal.{Refusal}

-- The range of the item i is one of len bytes.
pub record Within (d : SszDecoder) (i len : ℕ) : Type 0 where
  pub item : i < d.count
  pub few : i < 64
  pub upright : get_or d.starts i 0 ≤ get_or d.ends i 0
  pub inside : get_or d.ends i 0 ≤ len

pick_fine : (c : Bool) (u : Result ⊤ Refusal) → pick c u (Err BadState) ≡ Ok tt → (c ≡ true) × (u ≡ Ok tt)
pick_fine true u e = (refl, e)
pick_fine false u e = refused_next BadState tt e

pub item_fine : (d : SszDecoder) (i len : ℕ) → item_told_lem d i len ≡ Ok tt → Within d i len
unfolding item_told_lem
item_fine d i len e =
    let p = pick_fine (ltb i d.count) _ e in
    let q = pick_fine (ltb i 64) _ p.1 in
    let r = past (ltb (get_or d.ends i 0) (get_or d.starts i 0)) _ _ tt q.1 in
    let s = past (ltb len (get_or d.ends i 0)) _ _ tt r.1 in
    record { item = ltb-true _ _ p.0; few = ltb-true _ _ q.0; upright = ltb-false _ _ r.0; inside = ltb-false _ _ s.0 }
