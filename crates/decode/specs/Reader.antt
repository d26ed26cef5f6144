-- The ranges that a builder gives, and the items that a reader hands out: document 01, module 4. Assumes nothing: these are definitions.
use Rattle.std.specs.Prelude.{List, [], ◌∷◌, ℕ, zero, suc, ◌-◌, length, get_or, take, drop, eqb, ltb}
use Rattle.standard.specs.Choice.{pick}
use Rattle.standard.specs.declared.Refusal.{Refusal}
use Rattle.standard.specs.declared.Refusal.TheVariants.{TooLarge, BadState}
use Rattle.decode.specs.declared.builder.Progress.{Progress}
use Rattle.decode.specs.declared.decoder.SszDecoderBuilder.{SszDecoderBuilder}
use Rattle.decode.specs.declared.decoder.SszDecoder.{SszDecoder}
use Rattle.decode.specs.Builder.{build}
use Rattle.decode.specs.Held.{open_end, recalled}
use Rattle.std.specs.declared.result.Result.{Result}
use Rattle.std.specs.declared.result.Result.TheVariants.{Ok, Err}
use Rattle.std.specs.Prelude.{⊤}

-- "Each variable item ends where the next starts, the last at the end": an open end is closed at the next variable item's start
abbrev pub closed_end_lem : ℕ → ℕ → ℕ
closed_end_lem e n = pick (eqb e open_end) n e

abbrev pub start_from_lem : ℕ → ℕ → ℕ → ℕ
start_from_lem s e n = pick (eqb e open_end) s n

-- Where the first variable one of n items starts, or len
unfoldable pub first_start : List ℕ → List ℕ → ℕ → ℕ → ℕ
first_start ss es zero len = len
first_start [] es (suc n) len = len
first_start (s ∷ ss) [] (suc n) len = len
first_start (s ∷ ss) (e ∷ es) (suc n) len = start_from_lem s e (first_start ss es n len)

unfoldable pub close_ends_lem : List ℕ → List ℕ → ℕ → ℕ → List ℕ
close_ends_lem ss es zero len = es
close_ends_lem [] es (suc n) len = es
close_ends_lem (s ∷ ss) [] (suc n) len = []
close_ends_lem (s ∷ ss) (e ∷ es) (suc n) len = closed_end_lem e (first_start ss es n len) ∷ close_ends_lem ss es n len

-- What building gives: the ranges, or what is wrong and no ranges
abbrev pub Built : Type 0
Built = Result SszDecoder Refusal

abbrev pub ranges : SszDecoderBuilder → ℕ → SszDecoder
ranges x len = record { count = x.count; starts = x.starts; ends = close_ends_lem x.starts x.ends x.count len }

abbrev pub built_as : Result ⊤ Refusal → SszDecoderBuilder → ℕ → Built
built_as (Ok tt) x len = Ok (ranges x len)
built_as (Err r) x len = Err r

-- Building: 23 for a state that no run reaches, 21, then the rules of building
abbrev pub closable : Progress → List ℕ → SszDecoderBuilder → Built
closable p b x = pick (ltb 4294967295 (length b)) (Err TooLarge) (built_as (build (length b) p) x (length b))

abbrev pub build_known : Result Progress Refusal → List ℕ → SszDecoderBuilder → Built
build_known (Ok p) b x = closable p b x
build_known (Err r) b x = Err BadState

unfoldable pub build_items : List ℕ → SszDecoderBuilder → Built
build_items b x = build_known (recalled x b) b x

-- "past the last it answers 23", and so for "a reader range outside its bytes"
unfoldable pub item_told_lem : SszDecoder → ℕ → ℕ → Result ⊤ Refusal
item_told_lem d i len =
    pick (ltb i d.count)
    (pick (ltb i 64)
    (pick (ltb (get_or d.ends i 0) (get_or d.starts i 0)) (Err BadState)
    (pick (ltb len (get_or d.ends i 0)) (Err BadState)
    (Ok tt)))
    (Err BadState))
    (Err BadState)

-- The item is that part of the bytes; beside a refusal it is empty.
abbrev pub item_part : Result ⊤ Refusal → SszDecoder → ℕ → List ℕ → List ℕ
item_part (Ok tt) d i b = take (get_or d.ends i 0 - get_or d.starts i 0) (drop (get_or d.starts i 0) b)
item_part (Err r) d i b = []

abbrev pub item_of : SszDecoder → ℕ → List ℕ → List ℕ
item_of d i b = item_part (item_told_lem d i (length b)) d i b
