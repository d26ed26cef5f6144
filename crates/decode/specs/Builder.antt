-- Registering and building, over a row of heads: document 01, "Rules of reading". Assumes nothing: these are definitions.
use Rattle.std.specs.Prelude.{List, [], ◌∷◌, ℕ, ◌+◌, ◌-◌, length, eqb, ltb}
use Rattle.standard.specs.Choice.{pick}
use Rattle.standard.specs.Bytes.{four}
use Rattle.standard.specs.declared.Head.{Head}
use Rattle.standard.specs.declared.Head.TheVariants.{Fixed, Variable}
use Rattle.standard.specs.declared.Refusal.TheVariants.{InvalidByteLength, InvalidLengthPrefix, OffsetIntoFixedPortion, OffsetSkipsVariableBytes, OverLimit, TooLarge, BadState}
use Rattle.decode.specs.declared.builder.Progress.{Progress}
use Rattle.decode.specs.Offsets.{sanitize_offset_lem}
use Rattle.std.specs.declared.result.Result.{Result}
use Rattle.std.specs.declared.option.Option.{Option}
use Rattle.std.specs.declared.result.Result.TheVariants.{Ok, Err}
use Rattle.std.specs.declared.option.Option.TheVariants.{Some, None}
use Rattle.std.specs.Prelude.{⊤}
use Rattle.standard.specs.declared.Refusal.{Refusal}

abbrev pub fresh : Progress
fresh = record { pos = 0; first = None; previous = None }

abbrev pub or_else_just : Option ℕ → ℕ → Option ℕ
or_else_just (Some k) n = Some k
or_else_just None n = Some n

-- The next progress behind an offset that passed, or the offset's refusal.
abbrev pub behind_offset : Result ℕ Refusal → Progress → Result Progress Refusal
behind_offset (Ok o) x = Ok (record { pos = x.pos + 4; first = or_else_just x.first o; previous = Some o })
behind_offset (Err r) x = Err r

-- "Registering a fixed item of length f at position p needs p+f bytes, else 1"; above 4,294,967,295 it is 14.
-- "Registering a variable one reads an offset (else 2, with the bytes left and 4), then refuses in this order: 7 .., 6": the
-- fixed portion is not known while registering.
unfoldable pub step : Head → List ℕ → Progress → Result Progress Refusal
step (Fixed n) b x =
    pick (ltb 4294967295 n) (Err (OverLimit n 4294967295))
    (pick (ltb (length b) (x.pos + n)) (Err (InvalidByteLength (length b) (x.pos + n)))
    (Ok (record { pos = x.pos + n; first = x.first; previous = x.previous })))
step Variable b x =
    pick (ltb (length b - x.pos) 4) (Err (InvalidLengthPrefix (length b - x.pos) 4))
    (behind_offset (sanitize_offset_lem (four b x.pos) x.previous (length b) None) x)

-- One registration, for every progress and all bytes.
abbrev pub register_head_lem : Head → List ℕ → Progress → Result Progress Refusal
register_head_lem h b x =
    pick (ltb (length b) x.pos) (Err BadState)
    (pick (ltb 4294967295 (length b)) (Err TooLarge)
    (step h b x))

-- Goes on with what a registration gives, unless there is a refusal.
abbrev pub follow : Result Progress Refusal → (Progress → (Result Progress Refusal)) → Result Progress Refusal
follow (Ok x) k = k x
follow (Err r) k = Err r

-- "all fields are registered in order"
unfoldable pub register : List Head → List ℕ → Progress → Result Progress Refusal
register [] b x = Ok x
register (h ∷ hs) b x = follow (step h b x) (register hs b)

-- "Building: the first offset must equal the fixed portion (4 below it, 5 above it). With no variable field the fixed portion must
-- be the whole length, else 1."
abbrev pub build_at : Option ℕ → ℕ → ℕ → Result ⊤ Refusal
build_at (Some o) p len =
    pick (ltb o p) (Err (OffsetIntoFixedPortion o))
    (pick (ltb p o) (Err (OffsetSkipsVariableBytes o))
    (Ok tt))
build_at None p len = pick (eqb p len) (Ok tt) (Err (InvalidByteLength len p))

unfoldable pub build : ℕ → Progress → Result ⊤ Refusal
build len x = build_at x.first x.pos len

abbrev pub ended : Result Progress Refusal → (Progress → (Result ⊤ Refusal)) → Result ⊤ Refusal
ended (Ok x) k = k x
ended (Err r) k = Err r

-- Registers the heads over b, and builds.
unfoldable pub lay_out_lem : List Head → List ℕ → Result ⊤ Refusal
lay_out_lem hs b = ended (register hs b fresh) (build (length b))
