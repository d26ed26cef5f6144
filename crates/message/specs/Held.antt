-- What is known of a table is a fact, of which there is one proof at most. Assumes nothing.
use mathlib.Core.List.{List}
use Prim.Native.Nat.{ℕ}
use Rattle.std.proofs.Props.{props}
use Rattle.layout.specs.Legal.{Lower, LowerOrBare, LegalNode, Legal}
use Rattle.layout.specs.Steps.{Known}
use Rattle.layout.specs.declared.Node.{Node}

node_prop : (l : List ℕ) (t : ℕ) (n : Node) → IsProp (LegalNode l t n)
unfolding Lower LowerOrBare
node_prop l t n = hlevel props

pub known_prop : (lens l : List ℕ) (k : ℕ) → IsProp (Known lens l k)
unfolding Legal
known_prop lens l k = hlevel (props, node_prop)
