-- What is built over a row of heads: each item lies where the split has its part. Assumes nothing.
use mathlib.Core.Path.{◌≡◌, refl, sym, ap, ◌∙◌}
use mathlib.Core.List.{List, [], ◌∷◌, ◌++◌}
use Prim.Native.Nat.{ℕ, zero, suc, ◌+◌, ◌-◌, ◌≤◌, ◌<◌, ◌^◌}
use native.Mathlib.Numerals.{add-one}
use native.Mathlib.Nat.{add-zero, zero-add}
use native.Mathlib.Omega.{arith}
use borrow.Author.Tests.{lt-ltb, le-ltb, ne_eqb}
use lib.ListN.{length, get_or, take, drop, replicate, get_or-append}
use lib.Seq.{sets, sets-eq}
use Rattle.standard.specs.Types.{width}
use Rattle.standard.specs.Parts.{span_of, next, split, InRange}
use Rattle.standard.specs.declared.Head.{Head}
use Rattle.standard.specs.declared.Head.TheVariants.{Fixed, Variable}
use Rattle.standard.specs.declared.Refusal.TheVariants.{BadState}
use Rattle.standard.proofs.Join.{span_ranges}
use Rattle.decode.specs.Builder.{fresh, register, build, lay_out_lem}
use Rattle.decode.specs.Held.{new, open_end, put, Run, none}
use Rattle.decode.specs.Reader.{first_start, close_ends_lem, ranges, built_as, build_items, item_told_lem, item_of}
use Rattle.decode.specs.Heads.{register_all_lem, put_all, state_of, froms, tos, opens, pieces}
use Rattle.decode.specs.declared.builder.Progress.{Progress}
use Rattle.decode.specs.declared.decoder.SszDecoderBuilder.{SszDecoderBuilder}
use Rattle.decode.specs.declared.decoder.SszDecoder.{SszDecoder}
use Rattle.decode.proofs.Register.{ended_fine, layout-ranges}
use Rattle.decode.proofs.Reached.{run_recalled}
use Rattle.decode.proofs.Heads.{registers_state}
use Rattle.std.specs.declared.result.Result.TheVariants.{Ok, Err}

-- The record after a row of heads.
put_count : (hs : List Head) (b : List ℕ) (x : SszDecoderBuilder) → (put_all hs b x).count ≡ x.count + length hs
unfolding put_all
put_count [] b x = sym (add-zero _)
put_count (h ∷ hs) b x = put_count hs b (put h b x) ∙ omega arith

put-starts : (hs : List Head) (b : List ℕ) (x : SszDecoderBuilder) → (put_all hs b x).starts ≡ sets x.starts x.count (froms hs b x.pos)
unfolding put_all froms width
put-starts [] b x = refl
put-starts (Fixed n ∷ hs) b x =
    let y = put (Fixed n) b x in
    put-starts hs b y ∙ ap (λ (i : ℕ). sets y.starts i (froms hs b y.pos)) (add-one x.count)
put-starts (Variable ∷ hs) b x =
    let y = put Variable b x in
    put-starts hs b y ∙ ap (λ (i : ℕ). sets y.starts i (froms hs b y.pos)) (add-one x.count)

put-ends : (hs : List Head) (b : List ℕ) (x : SszDecoderBuilder) → (put_all hs b x).ends ≡ sets x.ends x.count (opens hs x.pos)
unfolding put_all opens
put-ends [] b x = refl
put-ends (h ∷ hs) b x =
    let y = put h b x in
    put-ends hs b y ∙ ap (λ (i : ℕ). sets y.ends i (opens hs y.pos)) (add-one x.count)

-- Closing its ends: at the next variable head's offset, or at the end.
module _ (b r t : List ℕ) (small : length b < 2 ^ 32) where
  not_open : (n : ℕ) → n ≤ length b → n ≡ open_end → ⊥
  not_open n h e = omega arith

  first_next : (hs : List Head) (p k : ℕ) → InRange hs b p k → first_start (froms hs b p ++ r) (opens hs p ++ t) (length hs) (length b) ≡ next hs b p
  unfolding first_start froms opens next width InRange
  first_next [] p k g = refl
  first_next (Fixed n ∷ hs) p k g = rw (ne_eqb _ _ (not_open (p + n) g.0)) (first_next hs (p + n) k g.1)
  first_next (Variable ∷ hs) p k g = refl

  close_tos : (hs : List Head) (p k : ℕ) → InRange hs b p k → close_ends_lem (froms hs b p ++ r) (opens hs p ++ t) (length hs) (length b) ≡ tos hs b p ++ t
  unfolding close_ends_lem froms opens tos width InRange
  close_tos [] p k g = refl
  close_tos (Fixed n ∷ hs) p k g =
      rw (ne_eqb _ _ (not_open (p + n) g.0)) (ap (λ (l : List ℕ). (p + n) ∷ l) (close_tos hs (p + n) k g.1))
  close_tos (Variable ∷ hs) p k g =
      rw (first_next hs (p + 4) _ g.3) (ap (λ (l : List ℕ). next hs b (p + 4) ∷ l) (close_tos hs (p + 4) _ g.3))

length-froms : (hs : List Head) (b : List ℕ) (p : ℕ) → length (froms hs b p) ≡ length hs
unfolding froms
length-froms [] b p = refl
length-froms (h ∷ hs) b p = ap suc (length-froms hs b (span_of h hs b p).next)

length-opens : (hs : List Head) (p : ℕ) → length (opens hs p) ≡ length hs
unfolding opens
length-opens [] p = refl
length-opens (h ∷ hs) p = ap suc (length-opens hs (p + width h))

length-tos : (hs : List Head) (b : List ℕ) (p : ℕ) → length (tos hs b p) ≡ length hs
unfolding tos
length-tos [] b p = refl
length-tos (h ∷ hs) b p = ap suc (length-tos hs b (span_of h hs b p).next)

-- The decoder of a row of heads: the spans' starts and ends, then zeros.
pub record Spans (hs : List Head) (b : List ℕ) (d : SszDecoder) : Type 0 where
  pub count_is : d.count ≡ length hs
  pub starts_are : d.starts ≡ froms hs b 0 ++ drop (length hs) (replicate 64 0)
  pub ends_are : d.ends ≡ tos hs b 0 ++ drop (length hs) (replicate 64 0)

module _ (hs : List Head) (b : List ℕ) (small : length b < 2 ^ 32) (few : length hs ≤ 64) where
  starts-of : (state_of hs b).starts ≡ froms hs b 0 ++ drop (length hs) (replicate 64 0)
  starts-of =
      let l = length-froms hs b 0 in
      put-starts hs b new ∙ rw (sets-eq (froms hs b 0) (replicate 64 0) 0 (omega arith), l, zero-add)

  ends_of : (state_of hs b).ends ≡ opens hs 0 ++ drop (length hs) (replicate 64 0)
  ends_of =
      let l = length-opens hs 0 in
      put-ends hs b new ∙ rw (sets-eq (opens hs 0) (replicate 64 0) 0 (omega arith), l, zero-add)

  count_of : (state_of hs b).count ≡ length hs
  count_of = put_count hs b new ∙ omega arith

  spans_of : InRange hs b 0 0 → Spans hs b (ranges (state_of hs b) (length b))
  spans_of g =
      record {
        count_is = count_of;
        starts_are = starts-of;
        ends_are = rw (starts-of, ends_of, count_of) (close_tos b _ _ small hs 0 0 g);
      }

  -- Building the state of these heads tells what laying them out over the bytes tells, and gives their spans.
  module _ (p : Progress) (e : register hs b fresh ≡ Ok p) where
    reaches : Run b p (state_of hs b)
    reaches = (registers_state b small hs fresh p new none (omega arith) e).1

    pub builds : build_items b (state_of hs b) ≡ built_as (lay_out_lem hs b) (state_of hs b) (length b)
    unfolding build_items lay_out_lem
    builds = rw (run_recalled reaches, le-ltb 4294967295 (length b) (omega arith), e)

-- The items of a row of heads, one by one.
pub record ItemAt (b : List ℕ) (from to : ℕ) (s : List ℕ) : Type 0 where
  pub upright : from ≤ to
  pub inside : to ≤ length b
  pub bytes : take (to - from) (drop from b) ≡ s

span_item : (hs : List Head) (b : List ℕ) (p i : ℕ) → InRange hs b p 0 → i < length hs
    → ItemAt b (get_or (froms hs b p) i 0) (get_or (tos hs b p) i 0) (get_or (pieces (split hs b p)) i [])
unfolding froms tos split pieces
span_item [] b p i g h = absurd (omega arith)
span_item (k ∷ hs) b p zero g h =
    let q = span_ranges k hs b p g in
    record { upright = q.0; inside = q.1; bytes = refl }
span_item (k ∷ hs) b p (suc i) g h = span_item hs b (span_of k hs b p).next i (span_ranges k hs b p g).2 (omega arith)

module _ (hs : List Head) (b : List ℕ) (d : SszDecoder) (g : Spans hs b d) (r : InRange hs b 0 0) (few : length hs ≤ 64) (i : ℕ)
    (h : i < length hs) where
  start-at : get_or d.starts i 0 ≡ get_or (froms hs b 0) i 0
  start-at =
      let l = length-froms hs b 0 in
      rw g.starts_are (get_or-append (froms hs b 0) _ 0 i (omega arith))

  end-at : get_or d.ends i 0 ≡ get_or (tos hs b 0) i 0
  end-at =
      let l = length-tos hs b 0 in
      rw g.ends_are (get_or-append (tos hs b 0) _ 0 i (omega arith))

  item-at : ItemAt b (get_or d.starts i 0) (get_or d.ends i 0) (get_or (pieces (split hs b 0)) i [])
  item-at = rw (start-at, end-at) (span_item hs b 0 i r h)

  item-there : item_told_lem d i (length b) ≡ Ok tt
  unfolding item_told_lem
  item-there =
      let c = g.count_is in
      let t = item-at in
      rw (lt-ltb i d.count (omega arith), lt-ltb i 64 (omega arith), le-ltb _ _ t.upright, le-ltb _ _ t.inside)

  -- Each item is there, and it is the part that the split has.
  pub item_is_part : (item_told_lem d i (length b) ≡ Ok tt) × (item_of d i b ≡ get_or (pieces (split hs b 0)) i [])
  item_is_part = (item-there, rw item-there item-at.bytes)

-- The whole, where the heads are accepted: registered one by one, built, and read item by item, the bytes come apart as the split has
-- them, and behind the last item there is none.
pub record Reads (hs : List Head) (b : List ℕ) : Type 0 where
  pub registered : register_all_lem hs b new ≡ Ok (state_of hs b)
  pub built : build_items b (state_of hs b) ≡ Ok (ranges (state_of hs b) (length b))
  pub items : (i : ℕ) → i < length hs
      → (item_told_lem (ranges (state_of hs b) (length b)) i (length b) ≡ Ok tt) ×
      (item_of (ranges (state_of hs b) (length b)) i b ≡ get_or (pieces (split hs b 0)) i [])
  pub past-last : (i : ℕ) → length hs ≤ i → item_told_lem (ranges (state_of hs b) (length b)) i (length b) ≡ Err BadState

no_item : (d : SszDecoder) (i len : ℕ) → d.count ≤ i → item_told_lem d i len ≡ Err BadState
unfolding item_told_lem
no_item d i len h = rw (le-ltb _ _ h)

pub reads : (hs : List Head) (b : List ℕ) → length b < 2 ^ 32 → length hs ≤ 64 → lay_out_lem hs b ≡ Ok tt → Reads hs b
unfolding lay_out_lem
reads hs b small few e =
    let q = ended_fine (register hs b fresh) (build (length b)) e in
    let r = layout-ranges hs b e in
    let g = spans_of hs b small few r in
    record {
      registered = (registers_state b small hs fresh q.0 new none (omega arith) q.1).0;
      built = builds hs b small few q.0 q.1 ∙ rw e;
      items = λ i h. item_is_part hs b _ g r few i h;
      past-last = λ i h. no_item _ i (length b) (omega (arith, g.count_is));
    }
