-- The builder that holds a record of its items: document 01, module 4. Assumes nothing: these are definitions.
use Rattle.std.specs.Prelude.{◌≡◌, List, [], ◌∷◌, Bool, true, false, ℕ, zero, suc, ◌+◌, ◌-◌, ◌≤◌, ◌<◌, ◌^◌, length, replicate, set, drop, eqb, ltb, leb}
use Rattle.standard.specs.Choice.{pick, and_also}
use Rattle.standard.specs.Bytes.{four}
use Rattle.standard.specs.Types.{width}
use Rattle.standard.specs.declared.Head.{Head}
use Rattle.standard.specs.declared.Head.TheVariants.{Fixed, Variable}
use Rattle.standard.specs.declared.Refusal.{Refusal}
use Rattle.standard.specs.declared.Refusal.TheVariants.{TooLarge, BadState, BuilderFull}
use Rattle.decode.specs.declared.builder.Progress.{Progress}
use Rattle.decode.specs.declared.decoder.SszDecoderBuilder.{SszDecoderBuilder}
use Rattle.standard.specs.declared.Refused.{Refused}
use Rattle.decode.specs.Builder.{fresh, step, register_head_lem, follow}
use Rattle.std.specs.declared.result.Result.{Result}
use Rattle.std.specs.declared.result.Result.TheVariants.{Ok, Err}

-- What stands for the end of a variable item until the container is built
abbrev pub open_end : ℕ
open_end = 18446744073709551615

-- Nothing is registered
abbrev pub new : SszDecoderBuilder
new = record { count = 0; pos = 0; starts = replicate 64 0; ends = replicate 64 0 }

-- What the record says of an item whose head is at p, with the next head at q
abbrev pub start_of : Head → List ℕ → ℕ → ℕ
start_of (Fixed n) b p = p
start_of Variable b p = four b p

abbrev pub end_of : Head → ℕ → ℕ
end_of (Fixed n) q = q
end_of Variable q = open_end

-- The state with one item more
abbrev pub put : Head → List ℕ → SszDecoderBuilder → SszDecoderBuilder
put h b x =
    record {
      count = x.count + 1;
      pos = x.pos + width h;
      starts = set x.starts x.count (start_of h b x.pos);
      ends = set x.ends x.count (end_of h (x.pos + width h));
    }

-- The states that runs of accepted registrations over b reach, each with how far its registrations have come. A registration is accepted
-- where the bytes are fewer than 2^32, fewer than 64 items are registered, and the rules of reading accept it.
pub data Run (b : List ℕ) : Progress → SszDecoderBuilder → Type 0 where
  none : Run b fresh new
  more : (h : Head) {p q : Progress} {x : SszDecoderBuilder} → Run b p x → length b < 2 ^ 32 → x.count < 64 → step h b p ≡ Ok q → Run b q (put h b x)

-- The test of a state: each item of the record is registered anew, and must be as the record says.
abbrev pub bad : Result Progress Refusal
bad = Err BadState

unfoldable pub recall : ℕ → ℕ → List ℕ → Progress → Result Progress Refusal
recall s e b x =
    pick (eqb e open_end)
    (pick (eqb s (four b x.pos)) (register_head_lem Variable b x) bad)
    (pick (eqb s x.pos) (pick (ltb e s) bad (register_head_lem (Fixed (e - s)) b x)) bad)

unfoldable pub walk : List ℕ → List ℕ → ℕ → List ℕ → Progress → Result Progress Refusal
walk ss es zero b x = Ok x
walk [] es (suc n) b x = bad
walk (s ∷ ss) [] (suc n) b x = bad
walk (s ∷ ss) (e ∷ es) (suc n) b x = follow (recall s e b x) (walk ss es n b)

unfoldable pub zeros : List ℕ → Bool
zeros [] = true
zeros (x ∷ xs) = and_also (eqb x 0) (zeros xs)

abbrev pub arrived : Result Progress Refusal → ℕ → Result Progress Refusal
arrived (Ok y) p = pick (eqb y.pos p) (Ok y) bad
arrived (Err r) p = bad

unfoldable pub recalled : SszDecoderBuilder → List ℕ → Result Progress Refusal
recalled x b =
    pick (leb x.count 64)
    (pick (zeros (drop x.count x.starts))
    (pick (zeros (drop x.count x.ends))
    (arrived (walk x.starts x.ends x.count b fresh) x.pos)
    bad)
    bad)
    bad

-- A progress has come as far as the state, within the bytes.
pub record Come (p : Progress) (x : SszDecoderBuilder) (b : List ℕ) : Type 0 where
  pub same : p.pos ≡ x.pos
  pub within : p.pos ≤ length b

-- What a registration gives: the next state, or the old one beside what is wrong
abbrev pub Registered : Type 0
Registered = Result SszDecoderBuilder (Refused SszDecoderBuilder)

-- One registration: 23 for a state that no run reaches, 21, 26, then the rules of reading. "refusals return the old state"
abbrev pub old : SszDecoderBuilder → Refusal → Registered
old x r = Err (record { state = x; refusal = r })

abbrev pub taken : Result Progress Refusal → Head → List ℕ → SszDecoderBuilder → Registered
taken (Ok y) h b x = Ok (put h b x)
taken (Err r) h b x = old x r

abbrev pub allowed : Progress → Head → List ℕ → SszDecoderBuilder → Registered
allowed p h b x =
    pick (ltb 4294967295 (length b)) (old x TooLarge)
    (pick (ltb x.count 64) (taken (step h b p) h b x) (old x (BuilderFull 64)))

abbrev pub known : Result Progress Refusal → Head → List ℕ → SszDecoderBuilder → Registered
known (Ok p) h b x = allowed p h b x
known (Err r) h b x = old x BadState

unfoldable pub register_item : Head → List ℕ → SszDecoderBuilder → Registered
register_item h b x = known (recalled x b) h b x

-- "register_type_parameterized": a length that counts only for a fixed item
abbrev pub head_for : Bool → ℕ → Head
head_for true n = Fixed n
head_for false n = Variable
