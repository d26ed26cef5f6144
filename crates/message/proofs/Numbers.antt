-- The registration of fields or elements in plain numbers: what each test finds is what `step` says of the progress that the
-- numbers stand for. Assumes nothing.
use mathlib.Core.Path.{◌≡◌, refl, ap, ◌∙◌}
use mathlib.Core.List.{List}
use Prim.Native.Nat.{ℕ, ◌+◌, ◌-◌, ◌≤◌, ◌<◌, ◌^◌}
use native.Mathlib.Omega.{arith}
use borrow.Author.Tests.{lt-ltb, le-ltb}
use lib.ListN.{length, get_or}
use Rattle.standard.specs.Bytes.{four}
use Rattle.standard.specs.Types.{head, heads}
use Rattle.standard.specs.declared.Head.{Head}
use Rattle.standard.specs.declared.Head.TheVariants.{Fixed, Variable}
use Rattle.standard.specs.declared.Refusal.{Refusal}
use Rattle.standard.specs.declared.Refusal.TheVariants.{InvalidByteLength, InvalidLengthPrefix, OffsetsAreDecreasing, OffsetOutOfBounds}
use Rattle.decode.specs.Offsets.{sanitize_offset_lem}
use Rattle.decode.specs.Builder.{behind_offset, step, build, build_at, lay_out_lem}
use Rattle.decode.specs.declared.builder.Progress.{Progress}
use Rattle.decode.proofs.Register.{behind}
use Rattle.layout.specs.Tree.{tree_of}
use Rattle.message.specs.Steps.{Row, types_of, Next, known_if, progress_of}
use Rattle.message.specs.declared.parts.Series.{Series}
use Rattle.message.proofs.Rows.{Laying, next_small, next_fixed, next_variable, laying-next, laying-bad, laying-end, fixed-step}
use Rattle.std.specs.declared.option.Option.{Option}
use Rattle.std.specs.Option.{option_or}
use Rattle.std.specs.declared.result.Result.{Result}
use Rattle.std.specs.declared.result.Result.TheVariants.{Ok, Err}
use Rattle.std.specs.declared.option.Option.TheVariants.{Some, None}

-- One field that is refused, or whose offset is there.
module _ (b : List ℕ) (x : Progress) where
  fixed-long : (n : ℕ) → n < 2 ^ 32 → length b < x.pos + n → step (Fixed n) b x ≡ Err (InvalidByteLength (length b) (x.pos + n))
  unfolding step
  fixed-long n s h = rw (le-ltb 4294967295 n (omega arith), lt-ltb (length b) (x.pos + n) h)

  offset_cut : length b < x.pos + 4 → step Variable b x ≡ Err (InvalidLengthPrefix (length b - x.pos) 4)
  unfolding step
  offset_cut h = rw (lt-ltb (length b - x.pos) 4 (omega arith))

  offset_there : x.pos + 4 ≤ length b → step Variable b x ≡ behind_offset (sanitize_offset_lem (four b x.pos) x.previous (length b) None) x
  unfolding step
  offset_there h = rw (le-ltb (length b - x.pos) 4 (omega arith))

-- What the tests of an offset o give, behind the offset n, which is known where a first one is.
abbrev tested : Option ℕ → ℕ → ℕ → ℕ → Progress → Result Progress Refusal
tested first n o len x = behind_offset (sanitize_offset_lem o (known_if first n) len None) x

offset_past : (first : Option ℕ) (n o len : ℕ) (x : Progress) → len < o → tested first n o len x ≡ Err (OffsetOutOfBounds o)
offset_past None n o len x h = rw (lt-ltb len o h)
offset_past (Some y) n o len x h = rw (lt-ltb len o h)

-- Where none is known n is 0, and no offset is below.
offset_back : (first : Option ℕ) (n o len : ℕ) (x : Progress) → (first ≡ None → n ≡ 0) → o ≤ len → o < n →
    tested first n o len x ≡ Err (OffsetsAreDecreasing o)
offset_back None n o len x z h k = absurd (omega (arith, z refl))
offset_back (Some y) n o len x z h k = rw (le-ltb len o h, lt-ltb o n k)

offset_taken : (first : Option ℕ) (n o len : ℕ) (x : Progress) → o ≤ len → n ≤ o → tested first n o len x ≡ Ok (behind x o)
offset_taken None n o len x h k = rw (le-ltb len o h)
offset_taken (Some y) n o len x h k = rw (le-ltb len o h, le-ltb o n k)

behind-progress : (first : Option ℕ) (previous p o : ℕ) → behind (progress_of first previous p) o ≡ progress_of (option_or first (Some o)) o (p + 4)
behind-progress None previous p o = refl
behind-progress (Some x) previous p o = refl

no-first : {A : Type 0} (first : Option ℕ) (o : ℕ) → option_or first (Some o) ≡ None → A
no-first None o e = cc
no-first (Some x) o e = cc

-- The loop of `lay_out`: `Laying` at the progress that the numbers stand for.
pub record Counting (lens l : List ℕ) (hs : List Head) (b : List ℕ) (first : Option ℕ) (previous p : ℕ) (r : Series) : Type 0 where
  pub laying : Laying lens l hs b (progress_of first previous p) r
  pub none : first ≡ None → previous ≡ 0

pub counting_new : (lens l b : List ℕ) (r : Series) → Row lens l r.below r.first r.step r.many → Counting lens l (heads (types_of l r)) b None 0 0 r
counting_new lens l b r g = record { laying = record { row = g; within = omega arith; same = refl }; none = λ e. refl }

module _ {lens l : List ℕ} {hs : List Head} {b : List ℕ} {first : Option ℕ} {previous p : ℕ} {r : Series} (g : Counting lens l hs b first previous p r) where
  abbrev now : Progress
  now = progress_of first previous p

  pub counting_end : r.many ≡ 0 → build_at first p (length b) ≡ lay_out_lem hs b
  unfolding build
  counting_end h = laying-end lens l hs b now r g.laying h

  module _ {f k : ℕ} {r' : Series} (i : Next l r (Some f) r') (q : k ≡ get_or lens f 0) where
    bad : (h : Head) → h ≡ head (tree_of l f) → (e : Refusal) → step h b now ≡ Err e → Err e ≡ lay_out_lem hs b
    bad h = laying-bad lens l hs b now r r' f h g.laying i

    next : (h : Head) → h ≡ head (tree_of l f) → (y : Progress) → step h b now ≡ Ok y → Laying lens l hs b y r'
    next h = laying-next lens l hs b now r r' f h g.laying i

    -- a field of fixed size
    module _ (v : 0 < k) where
      is_fixed_law : Fixed k ≡ head (tree_of l f)
      is_fixed_law = next_fixed lens l r r' f g.laying.row i k q (λ (u : k ≡ 0). omega arith)

      pub counting_long : length b < p + k → Err (InvalidByteLength (length b) (p + k)) ≡ lay_out_lem hs b
      counting_long h = bad (Fixed k) is_fixed_law _ (fixed-long b now k (rw q (next_small lens l r r' f g.laying.row i)) h)

      pub counting_fixed : p + k ≤ length b → length b < 2 ^ 32 → Counting lens l hs b first previous (p + k) r'
      counting_fixed h s = record { laying = next (Fixed k) is_fixed_law _ (fixed-step k b now h s); none = g.none }

    -- one of variable size
    module _ (v : k ≤ 0) where
      is_variable : Variable ≡ head (tree_of l f)
      is_variable = next_variable lens l r r' f g.laying.row i k q (omega arith)

      pub counting_cut : length b < p + 4 → Err (InvalidLengthPrefix (length b - p) 4) ≡ lay_out_lem hs b
      counting_cut h = bad Variable is_variable _ (offset_cut b now h)

      module _ {o : ℕ} (h : p + 4 ≤ length b) (j : o ≡ four b p) where
        there : step Variable b now ≡ tested first previous o (length b) now
        there = rw j (offset_there b now h)

        pub counting_past : length b < o → Err (OffsetOutOfBounds o) ≡ lay_out_lem hs b
        counting_past d = bad Variable is_variable _ (there ∙ offset_past first previous o (length b) now d)

        module _ (d : o ≤ length b) where
          pub counting_back : o < previous → Err (OffsetsAreDecreasing o) ≡ lay_out_lem hs b
          counting_back m = bad Variable is_variable _ (there ∙ offset_back first previous o (length b) now g.none d m)

          pub counting_next : previous ≤ o → Counting lens l hs b (option_or first (Some o)) o (p + 4) r'
          counting_next m =
              record {
                laying =
                    next Variable is_variable _
                    (there ∙ offset_taken first previous o (length b) now d m ∙ ap Ok (behind-progress first previous p o));
                none = λ e. no-first first o e;
              }
