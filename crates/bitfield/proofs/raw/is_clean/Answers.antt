-- The array is the raw bytes, and what is clean is kept. Assumes nothing.
use Rattle.std.proofs.Common.{ℕ, sym, ◌∙◌, rules}
use Rattle.bitfield.proofs.Results.{raw-known}
use Rattle.bitfield.proofs.Tolds.{clean-kept}
use Rattle.bitfield.proofs.raw.is_clean.Goals as goal

pub is_clean_low-requires : goal.is_clean_low-requires
is_clean_low-requires c = (c.if-len-lt1024.true, raw-known _ (search rules) (λ (i : ℕ). search rules))

pub is_clean_high-requires : goal.is_clean_high-requires
is_clean_high-requires c = (c.if-len-lt1024.false, raw-known _ (search rules) (λ (i : ℕ). search rules))

pub returns-then-len-lt1024-clause-kept : goal.returns-then-len-lt1024-clause-kept
returns-then-len-lt1024-clause-kept c =
    λ e. clean-kept _ _ (raw-known _ (search rules) (λ (i : ℕ). search rules)) (sym c.is_clean_low.ensures ∙ e)

pub returns-else-len-lt1024-clause-kept : goal.returns-else-len-lt1024-clause-kept
returns-else-len-lt1024-clause-kept c =
    λ e. clean-kept _ _ (raw-known _ (search rules) (λ (i : ℕ). search rules)) (sym c.is_clean_high.ensures ∙ e)
