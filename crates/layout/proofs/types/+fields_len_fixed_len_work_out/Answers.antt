-- The cycle of calls of `fixed_len`, `work_out` and `fields_len`: the type number falls. Assumes nothing.
use Rattle.std.proofs.Common.{◌≡◌, sym, ◌∙◌, ◌+◌, ◌-◌, arith}
use borrow.Author.Tests.{lt-ltb}
use Rattle.standard.specs.Types.{head}
use Rattle.layout.specs.Tree.{tree_of, len_of}
use Rattle.layout.specs.Table.{count}
use Rattle.layout.proofs.Facts.{legal_node, legal-below}
use Rattle.layout.proofs.Tables.{known_len}
use Rattle.layout.proofs.Lengths.{taking_start, taking_wrong, taking_width, taking_fixed, taking_variable, taking_end, kept_lower}
use Rattle.layout.proofs.Lengths.{worked_alone, element_lower, worked_vector, worked_sizes, worked_container, worked_small, lengthened}
use Rattle.layout.proofs.types.+fields_len_fixed_len_work_out.Goals as goal
use Rattle.layout.proofs.types.+fields_len_fixed_len_work_out.Goals.{fields_len-then-len-eq0, fields_len-else-len-eq0, work_out-in-Vector, work_out-in-Container, work_out-in_default}

pub fields_len-overflow_add-a-end : goal.fields_len-overflow_add-a-end
unfolding count
fields_len-overflow_add-a-end t c = omega arith

pub fields_len-loop-a-init : goal.fields_len-loop-a-init
fields_len-loop-a-init t c = record { found = c.requires.0.found; taking = taking_start _ _ _ _ _ (omega arith) }

pub fields_len-returns-then-f-t-clause-value : goal.fields_len-returns-then-f-t-clause-value
fields_len-returns-then-f-t-clause-value t c =
    let rest = c.args.a0 + c.args.n - (c.loop-a.a + 1) in
    taking_wrong _ _ _ _ _ _ rest _ _ _ c.requires.0.legal c.loop-a.invariant.taking (omega arith) c.word_in-f.ensures.0 (omega arith) _ c.if-f-t.true

pub fields_len-fixed_len-len-requires : goal.fields_len-fixed_len-len-requires
fields_len-fixed_len-len-requires t c = (
  omega (arith, c.decreases),
  (
    record { found = c.loop-a.invariant.found; legal = c.requires.0.legal; few = c.requires.0.few },
    legal-below _ _ _ (omega arith) c.requires.0.legal,
    omega arith,
    omega (arith, c.requires.0.few),
  ),
)

pub fields_len-overflow_add-portion : goal.fields_len-overflow_add-portion
fields_len-overflow_add-portion t c =
    let rest = c.args.a0 + c.args.n - (c.loop-a.a + 1) in
    let w = taking_width _ _ _ _ _ _ rest _ _ _ c.requires.0.legal c.loop-a.invariant.taking (omega arith) c.word_in-f.ensures.0 (omega arith)
    c.if-f-t.false _ c.fixed_len-len.ensures.gives _ c.width_of.ensures in
    let b = c.loop-a.invariant.taking.bound in
    omega (arith, w)

pub fields_len-loop-a-preserved : goal.fields_len-loop-a-preserved
fields_len-loop-a-preserved t c =
    record {
      found = kept_lower _ _ _ _ c.if-f-t.false c.fixed_len-len.ensures.found;
      taking =
          elim c.if-len-eq0.branch [
            | fields_len-then-len-eq0 w ↦
                rw w.fixed-is (taking_variable _ _ _ _ _ _ _ _ _ _ c.requires.0.legal c.loop-a.invariant.taking (omega arith) c.word_in-f.ensures.0
                (omega arith) c.if-f-t.false _ c.fixed_len-len.ensures.gives _ c.width_of.ensures w.if-len-eq0.true)
            | fields_len-else-len-eq0 w ↦
                rw w.fixed-is (taking_fixed _ _ _ _ _ _ _ _ _ _ c.requires.0.legal c.loop-a.invariant.taking (omega arith) c.word_in-f.ensures.0
                (omega arith) c.if-f-t.false _ c.fixed_len-len.ensures.gives _ c.width_of.ensures w.if-len-eq0.false)
          ];
    }

pub fields_len-returns-then-fixed-clause-value : goal.fields_len-returns-then-fixed-clause-value
fields_len-returns-then-fixed-clause-value t c =
    rw c.if-fixed.true at (taking_end _ _ _ _ _ _ _ _ c.loop-a.invariant.taking (omega arith) (omega arith))

pub fields_len-returns-else-fixed-clause-value : goal.fields_len-returns-else-fixed-clause-value
fields_len-returns-else-fixed-clause-value t c =
    rw c.if-fixed.false at (taking_end _ _ _ _ _ _ _ _ c.loop-a.invariant.taking (omega arith) (omega arith))

pub fixed_len-returns-then-t-known : goal.fixed_len-returns-then-t-known
fixed_len-returns-then-t-known t c =
    record { gives = known_len _ _ _ c.requires.0 _ c.if-t-known.true; found = rw (lt-ltb _ _ c.if-t-known.true) c.requires.0.found }

pub work_out-overflow_add-n : goal.work_out-overflow_add-n
work_out-overflow_add-n t c = omega (arith, (legal_node _ _ _ c.look-n.ensures c.requires.1).near)

pub work_out-fixed_len-requires : goal.work_out-fixed_len-requires
work_out-fixed_len-requires t c =
    let h = element_lower _ _ _ c.look-n.ensures c.requires.1 c.in-Vector.is in (
      omega (arith, h, c.decreases),
      (c.requires.0, legal-below _ _ _ (omega (arith, h)) c.requires.1, omega (arith, h), omega (arith, h)),
    )

pub work_out-overflow_mul-len : goal.work_out-overflow_mul-len
work_out-overflow_mul-len t c =
    let e = worked_vector _ _ _ c.look-n.ensures c.requires.1 _ _ c.in-Vector.is c.word_at.ensures.0 c.fixed_len.ensures.gives in
    omega (arith, worked_small _ _ _ c.look-n.ensures c.requires.1 _ e)

pub work_out-overflow_add-n-in-Container : goal.work_out-overflow_add-n-in-Container
work_out-overflow_add-n-in-Container t c = omega (arith, (legal_node _ _ _ c.look-n.ensures c.requires.1).near)

pub work_out-fields_len-requires : goal.work_out-fields_len-requires
work_out-fields_len-requires t c =
    let g = legal_node _ _ _ c.look-n.ensures c.requires.1 in
    (omega (arith, c.decreases), (c.requires.0, g.few c.in-Container.is, g.within (rw c.in-Container.is)))

pub work_out-unwrap-requires : goal.work_out-unwrap-requires
work_out-unwrap-requires t c = worked_sizes _ _ _ c.look-n.ensures c.requires.1 _ c.in-Container.is c.fields_len.ensures.value

pub work_out-leaf_len-len-requires : goal.work_out-leaf_len-len-requires
work_out-leaf_len-len-requires t c = (legal_node _ _ _ c.look-n.ensures c.requires.1).small

pub work_out-overflow_cast-lens : goal.work_out-overflow_cast-lens
work_out-overflow_cast-lens t c =
    let e = elim c.match-n.branch as (λ x. c.match-n.len ≡ len_of (head (tree_of c.args.layout.now c.args.t))) [
      | work_out-in-Vector w ↦
          rw w.len-is (worked_vector _ _ _ c.look-n.ensures c.requires.1 _ _ w.in-Vector.is w.word_at.ensures.0 w.fixed_len.ensures.gives)
      | work_out-in-Container w ↦
          rw w.len-is (worked_container _ _ _ c.look-n.ensures c.requires.1 _ w.in-Container.is (sym w.unwrap.ensures ∙ w.fields_len.ensures.value))
      | work_out-in_default w ↦
          let d = w.in_default in
          rw w.len-is (worked_alone _ _ _ c.look-n.ensures c.requires.1 _ w.leaf_len-len.ensures d.not-Vector d.not-Container)
    ] in
    omega (arith, worked_small _ _ _ c.look-n.ensures c.requires.1 _ e)

pub work_out-returns : goal.work_out-returns
work_out-returns t c =
    elim c.match-n.branch [
      | work_out-in-Vector w ↦
          let h = element_lower _ _ _ c.look-n.ensures c.requires.1 w.in-Vector.is in
          let e = worked_vector _ _ _ c.look-n.ensures c.requires.1 _ _ w.in-Vector.is w.word_at.ensures.0 w.fixed_len.ensures.gives in
          lengthened _ _ _ _ (w.lens-is ∙ kept_lower _ _ _ _ h w.fixed_len.ensures.found) c.requires.2 (w.len-is ∙ e)
      | work_out-in-Container w ↦
          let e = worked_container _ _ _ c.look-n.ensures c.requires.1 _ w.in-Container.is (sym w.unwrap.ensures ∙ w.fields_len.ensures.value) in
          lengthened _ _ _ _ (w.lens-is ∙ w.fields_len.ensures.lens_unchanged ∙ c.requires.0.found) c.requires.2 (w.len-is ∙ e)
      | work_out-in_default w ↦
          let d = w.in_default in
          let e = worked_alone _ _ _ c.look-n.ensures c.requires.1 _ w.leaf_len-len.ensures d.not-Vector d.not-Container in
          lengthened _ _ _ _ (w.lens-is ∙ c.requires.0.found) c.requires.2 (w.len-is ∙ e)
    ]
