-- By the kind, and for a list by its count. Assumes nothing.
use Rattle.std.proofs.Common.{◌≡◌, ap, arith}
use Rattle.std.proofs.lemmas.Result.{err_from_is_err_and}
use Rattle.layout.specs.Kinds.{has_element}
use Rattle.layout.specs.declared.Kind.{Kind}
use Rattle.layout.proofs.Facts.{legal_node}
use Rattle.value.proofs.Rows.{under-known}
use Rattle.value.proofs.Unions.{laid-union}
use Rattle.value.proofs.Repeats.{laid-container, laid-vector, laid-uncounted, laid-list, other_list}
use Rattle.value.proofs.laid.lay.Goals as goal
use Rattle.value.proofs.laid.lay.Goals.{In_default}

pub overflow_add-third : goal.overflow_add-third
overflow_add-third c = omega (arith, (legal_node _ _ _ c.requires.1 (under-known _ _ _ _ c.args.table.known c.requires.0).legal).near)

pub fields-requires : goal.fields-requires
fields-requires c = (legal_node _ _ _ c.requires.1 (under-known _ _ _ _ c.args.table.known c.requires.0).legal).near

pub returns-in-Container : goal.returns-in-Container
returns-in-Container c = rw c.fields.ensures (laid-container _ _ _ (under-known _ _ _ _ c.args.table.known c.requires.0) _ c.requires.1 _ _ c.in-Container.is)

pub select-requires : goal.select-requires
select-requires c =
    let z = legal_node _ _ _ c.requires.1 (under-known _ _ _ _ c.args.table.known c.requires.0).legal in
    (omega (arith, z.near), z.most c.in-Union.is)

pub returns-in-Union : goal.returns-in-Union
returns-in-Union c = laid-union _ _ _ c.requires.1 c.in-Union.is (under-known _ _ _ _ c.args.table.known c.requires.0).legal _ _ _ c.select.ensures

pub word-requires : goal.word-requires
word-requires c = (legal_node _ _ _ c.requires.1 (under-known _ _ _ _ c.args.table.known c.requires.0).legal).third (ap has_element c.in-Vector.is)

pub elements-requires : goal.elements-requires
elements-requires c = (legal_node _ _ _ c.requires.1 (under-known _ _ _ _ c.args.table.known c.requires.0).legal).near

pub returns-in-Vector : goal.returns-in-Vector
returns-in-Vector c =
    rw c.elements.ensures
    (laid-vector _ _ _ (under-known _ _ _ _ c.args.table.known c.requires.0) _ c.requires.1 _ _ _ c.word.ensures.0 c.word.ensures.1 c.in-Vector.is)

-- The other kinds: a list
list : (c : In_default) → c.args.n.kind ≡ Kind.List
list c = other_list _ c.requires.2 c.in_default.not-Container c.in_default.not-Union c.in_default.not-Vector

pub word-requires-in_default : goal.word-requires-in_default
word-requires-in_default c =
    (legal_node _ _ _ c.requires.1 (under-known _ _ _ _ c.args.table.known c.requires.0).legal).third (ap has_element (list (goal.at.word-requires-in_default c).In_default))

pub returns-in_err-many-in_default : goal.returns-in_err-many-in_default
returns-in_err-many-in_default c =
    let p = err_from_is_err_and c.from_residual.result c.from_residual.ensures.1 in
    rw (p.1, p.2)
    (laid-uncounted _ _ _ (under-known _ _ _ _ c.args.table.known c.requires.0) _ c.requires.1 _ _ _ c.word-in_default.ensures.0 c.word-in_default.ensures.1
    (list (goal.at.returns-in_err-many-in_default c).In_default) _ c.in_err-many-in_default.ensures)

pub elements-requires-in_default : goal.elements-requires-in_default
elements-requires-in_default c = (legal_node _ _ _ c.requires.1 (under-known _ _ _ _ c.args.table.known c.requires.0).legal).near

pub returns-in_ok-many-in_default : goal.returns-in_ok-many-in_default
returns-in_ok-many-in_default c =
    rw c.elements-in_default.ensures
    (laid-list _ _ _ (under-known _ _ _ _ c.args.table.known c.requires.0) _ c.requires.1 _ _ _ c.word-in_default.ensures.0 c.word-in_default.ensures.1
    (list (goal.at.returns-in_ok-many-in_default c).In_default) _ c.in_ok-many-in_default.ensures)
