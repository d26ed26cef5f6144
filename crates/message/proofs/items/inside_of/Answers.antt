-- By the kind: a container's fields are read once they are registered. Assumes nothing.
use Rattle.std.proofs.Common.{arith, sym}
use Rattle.decode.proofs.Register.{layout-ranges}
use Rattle.message.proofs.Answers.{handed}
use Rattle.message.proofs.Rows.{known-below, node_legal, container_tree}
use Rattle.message.proofs.Bodies.{container-row, container-on, container_stop}
use Rattle.message.proofs.Manys.{several}
use Rattle.message.proofs.items.inside_of.Goals as goal

pub fields-row-requires : goal.fields-row-requires
fields-row-requires c = (node_legal _ _ _ _ c.requires.2 (known-below c.args.table.now _ c.requires.0)).near

pub container_told-requires : goal.container_told-requires
container_told-requires c =
    let p = c.requires in
    let u = known-below c.args.table.now _ p.0 in
    rw c.fields-row.ensures (p.0, container-row _ _ _ _ p.2 u c.in-Container.is, p.1, container_tree _ _ _ p.2 c.in-Container.is)

pub returns-in_ok-container_told-in-Container : goal.returns-in_ok-container_told-in-Container
returns-in_ok-container_told-in-Container c =
    let p = c.requires in
    let u = known-below c.args.table.now _ p.0 in
    let fine = rw c.fields-row.ensures at c.in_ok-container_told-in-Container.ensures in
    rw c.fields-row.ensures (
      omega arith,
      container-row _ _ _ _ p.2 u c.in-Container.is,
      layout-ranges _ _ (sym fine),
      omega arith,
      λ s. container-on _ _ _ _ p.2 u c.in-Container.is _ s fine,
    )

pub returns-in_err-container_told-in-Container : goal.returns-in_err-container_told-in-Container
returns-in_err-container_told-in-Container c =
    let p = c.requires in
    let u = known-below c.args.table.now _ p.0 in
    let stop = rw c.fields-row.ensures at c.in_err-container_told-in-Container.ensures in
    rw (handed _ _ c.from_residual.ensures.1) (λ s. container_stop _ _ _ _ p.2 u c.in-Container.is _ s _ stop)

pub elements_inside-requires : goal.elements_inside-requires
elements_inside-requires c =
    let p = c.requires in
    (p.0, p.1, p.2, several _ p.3 c.in_default.not-Container p.4)
