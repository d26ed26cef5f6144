-- A container encoded part by part, by the encoder's own definitions. Assumes nothing: these are definitions.
use Rattle.std.specs.Prelude.{List, [], ◌∷◌, Bool, true, false, ℕ, ◌≤◌, ◌<◌, ◌^◌, length, take}
use Rattle.standard.specs.Parts.{Part, piece, fixed_lengths, backs, join}
use Rattle.standard.specs.declared.Head.{Head}
use Rattle.standard.specs.declared.Head.TheVariants.{Fixed, Variable}
use Rattle.standard.specs.declared.Refusal.{Refusal}
use Rattle.encode.specs.Encoder.{container, append, appended, front_of, back_of}
use Rattle.encode.specs.Finish.{finalize, finished}
use Rattle.encode.specs.declared.encoder.SszEncoder.{SszEncoder}
use Rattle.std.specs.declared.result.Result.{Result}
use Rattle.std.specs.declared.result.Result.TheVariants.{Ok, Err}

-- An encoder with its two buffers, or the first refusal with the buffers as they were left
pub data Held : Type 0 where
  going : SszEncoder → List ℕ → List ℕ → Held
  stopped : Refusal → List ℕ → List ℕ → Held

abbrev pub is_fixed_lem : Head → Bool
is_fixed_lem (Fixed n) = true
is_fixed_lem Variable = false

abbrev pub onward : Result SszEncoder Refusal → List ℕ → List ℕ → (SszEncoder → Held) → Held
onward (Ok y) f v k = k y
onward (Err r) f v k = stopped r f v

-- The parts appended in order
unfoldable pub append_all_lem : List Part → SszEncoder → List ℕ → List ℕ → Held
append_all_lem [] x f v = going x f v
append_all_lem (piece h s ∷ xs) x f v =
    let r = append (is_fixed_lem h) x s f v in
    let f' = appended r f x.fixed_used (front_of (is_fixed_lem h) x s) in
    let v' = appended r v x.variable_used (back_of (is_fixed_lem h) s) in
    onward r f' v' (λ y. append_all_lem xs y f' v')

-- What `finalize` then answers, and the fixed buffer after it
abbrev pub closed : Held → Result ℕ Refusal
closed (going x f v) = finalize x f v
closed (stopped r f v) = Err r

abbrev pub ending : Held → List ℕ
ending (going x f v) = finished (finalize x f v) f x.fixed_used (take x.variable_used v)
ending (stopped r f v) = f

-- The whole: a container whose fixed portion is as long as the parts' own
abbrev pub encoded : List Part → List ℕ → List ℕ → Held
encoded xs f v = append_all_lem xs (container (fixed_lengths xs)) f v

-- There is room for the parts in both buffers, and each offset fits.
pub record Fitting (xs : List Part) (f v : List ℕ) : Type 0 where
  pub front : length (join xs) ≤ length f
  pub back : length (backs xs) ≤ length v
  pub small : length (join xs) < 2 ^ 32
