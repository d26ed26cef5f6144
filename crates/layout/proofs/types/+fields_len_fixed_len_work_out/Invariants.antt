-- The cycle of calls of `fixed_len`, `work_out` and `fields_len`: the type number falls. The loop keeps `Taking`, and what is remembered.
-- Assumes nothing.
use Rattle.std.proofs.Common.{◌≡◌, ◌+◌, ◌-◌, ◌*◌}
use Rattle.layout.specs.Tree.{filled}
use Rattle.layout.proofs.Lengths.{Taking}
use Rattle.layout.proofs.types.+fields_len_fixed_len_work_out.Given as goal

abbrev pub decreases-fields_len : goal.decreases-fields_len
decreases-fields_len l = 3 * l.t

abbrev pub decreases-fixed_len : goal.decreases-fixed_len
decreases-fixed_len l = 3 * l.t + 2

abbrev pub decreases-work_out : goal.decreases-work_out
decreases-work_out l = 3 * l.t + 1

abbrev pub invariant-fields_len-loop-a : goal.invariant-fields_len-loop-a
invariant-fields_len-loop-a l =
    record {
      found : l.lens ≡ filled l.layout l.t;
      taking : Taking l.layout l.t l.a0 l.n l.a (l.a0 + l.n - l.a) l.portion l.fixed;
    }
