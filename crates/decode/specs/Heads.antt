-- The builder over a row of heads, and where the items then lie. Assumes nothing: these are definitions.
use Rattle.std.specs.Prelude.{◌≡◌, List, [], ◌∷◌, ℕ, ◌+◌}
use Rattle.standard.specs.Types.{width}
use Rattle.standard.specs.Parts.{Part, piece, span_of}
use Rattle.standard.specs.declared.Head.{Head}
use Rattle.decode.specs.Held.{new, end_of, put, Registered, register_item}
use Rattle.decode.specs.declared.builder.Progress.{Progress}
use Rattle.decode.specs.declared.decoder.SszDecoderBuilder.{SszDecoderBuilder}
use Rattle.std.specs.declared.result.Result.{Result}
use Rattle.std.specs.declared.result.Result.TheVariants.{Ok, Err}
use Rattle.std.specs.Prelude.{⊤}
use Rattle.standard.specs.declared.Refusal.{Refusal}

-- The states that the builder's own calls over b give, from a new one on, while each is accepted
pub data Calls (b : List ℕ) : SszDecoderBuilder → Type 0 where
  start : Calls b new
  call : (h : Head) {x y : SszDecoderBuilder} → Calls b x → register_item h b x ≡ Ok y → Calls b y

-- Goes on with the next state, unless there is a refusal.
abbrev pub if_fine : Registered → (SszDecoderBuilder → Registered) → Registered
if_fine (Ok y) k = k y
if_fine (Err e) k = Err e

-- The heads registered one by one, by the builder's own calls
unfoldable pub register_all_lem : List Head → List ℕ → SszDecoderBuilder → Registered
register_all_lem [] b x = Ok x
register_all_lem (h ∷ hs) b x = if_fine (register_item h b x) (register_all_lem hs b)

-- What a registration tells, without its state
abbrev pub told_lem : Registered → Result ⊤ Refusal
told_lem (Ok y) = Ok tt
told_lem (Err e) = Err e.refusal

-- What the fold over the heads tells
abbrev pub told_by : Result Progress Refusal → Result ⊤ Refusal
told_by (Ok y) = Ok tt
told_by (Err r) = Err r

-- The state after these heads
unfoldable pub put_all : List Head → List ℕ → SszDecoderBuilder → SszDecoderBuilder
put_all [] b x = x
put_all (h ∷ hs) b x = put_all hs b (put h b x)

abbrev pub state_of : List Head → List ℕ → SszDecoderBuilder
state_of hs b = put_all hs b new

-- Where the items with these heads start, and where they end; and the ends as they stand in the record before building
unfoldable pub froms : List Head → List ℕ → ℕ → List ℕ
froms [] b p = []
froms (h ∷ hs) b p = (span_of h hs b p).from ∷ froms hs b (span_of h hs b p).next

unfoldable pub tos : List Head → List ℕ → ℕ → List ℕ
tos [] b p = []
tos (h ∷ hs) b p = (span_of h hs b p).to ∷ tos hs b (span_of h hs b p).next

unfoldable pub opens : List Head → ℕ → List ℕ
opens [] p = []
opens (h ∷ hs) p = end_of h (p + width h) ∷ opens hs (p + width h)

-- The bytes of each part
unfoldable pub pieces : List Part → List (List ℕ)
pieces [] = []
pieces (piece h s ∷ xs) = s ∷ pieces xs
