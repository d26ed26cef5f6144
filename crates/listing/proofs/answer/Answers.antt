-- The records that are printed are within their room. Assumes nothing.
use Rattle.std.proofs.Common.{arith, refl, length-take}
use Rattle.listing.proofs.Bounds.{records-within}
use Rattle.listing.proofs.answer.Goals as goal

pub overflow_mul-records : goal.overflow_mul-records
overflow_mul-records g c = omega (arith, records-within _ _ _ _ _ c.in-Ok.ensures.value refl)

pub slice_bounds-records-end : goal.slice_bounds-records-end
slice_bounds-records-end g c = omega (arith, records-within _ _ _ _ _ c.in-Ok.ensures.value refl)

pub slice_bounds-listing-end : goal.slice_bounds-listing-end
slice_bounds-listing-end g c = simp length-take (omega (arith, records-within _ _ _ _ _ c.in-Ok.ensures.value refl))
