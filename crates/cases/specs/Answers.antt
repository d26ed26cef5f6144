-- When an expected answer is the one that was given. Assumes nothing: these are definitions.
use Rattle.std.specs.Prelude.{ℕ, Bool, true, false, List, eqb, length}
use Rattle.standard.specs.Bytes.{num_at, word_at}
use Rattle.standard.specs.Choice.{and_also, or_else}
use Rattle.standard.specs.Refusals.{numbers_of_lem}
use Rattle.standard.specs.declared.Refusal.{Refusal}
use Rattle.cases.specs.Records.{part_of}
use Rattle.cases.specs.declared.Verdict.{Verdict}
use Rattle.cases.specs.declared.Verdict.TheVariants.{Same, Differs}

-- the greatest number, 2^64 - 1, stands for any
abbrev pub agrees : ℕ → ℕ → Bool
agrees e x = or_else (eqb e 18446744073709551615) (eqb e x)

abbrev pub is_number : List ℕ → ℕ → Bool
is_number l x = and_also (eqb (length l) 8) (eqb (num_at 8 l 0) x)

-- a head: number, a, b, type, start
unfoldable pub head_matches_lem : List ℕ → ℕ → ℕ → ℕ → ℕ → ℕ → Bool
head_matches_lem h n a b t s =
    and_also (eqb (length h) 40)
    (and_also (agrees (num_at 8 h 0) n)
    (and_also (agrees (num_at 8 h 8) a)
    (and_also (agrees (num_at 8 h 16) b) (and_also (agrees (num_at 8 h 24) t) (agrees (num_at 8 h 32) s)))))

abbrev pub refusal_matches_lem : List ℕ → Refusal → Bool
refusal_matches_lem h r = head_matches_lem h (numbers_of_lem r).number (numbers_of_lem r).a (numbers_of_lem r).b 0 0

-- so many parts, with a head after the question's
abbrev pub is_formed_lem : List ℕ → ℕ → ℕ → Bool
is_formed_lem b q n = and_also (eqb (word_at b 1) n) (eqb (length (part_of b q)) 40)

abbrev pub told_of : Bool → Verdict
told_of true = Same
told_of false = Differs
