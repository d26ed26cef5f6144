-- By the kind. Assumes nothing.
use Rattle.std.proofs.Common.{◌∙◌, refl}
use Rattle.layout.specs.Table.{count}
use Rattle.layout.proofs.Lengths.{leaf_here, boolean_here, container_here, union_here, list_here, vector_here}
use Rattle.layout.proofs.types.body_end.Goals as goal

pub returns-in-Container-clause-value : goal.returns-in-Container-clause-value
unfolding count
returns-in-Container-clause-value c =
    c.container_end.ensures.value ∙ container_here _ _ _ _ _ c.requires.2 c.if-at-words.false c.word_in.ensures.0 c.in-Some.ensures c.in-Container.is

pub returns-in-Vector-clause-value : goal.returns-in-Vector-clause-value
unfolding count
returns-in-Vector-clause-value c = c.vector_end.ensures ∙ vector_here _ _ _ _ _ c.requires.2 c.if-at-words.false c.word_in.ensures.0 c.in-Some.ensures c.in-Vector.is

pub returns-in_ok-end-in-Union-clause-value : goal.returns-in_ok-end-in-Union-clause-value
unfolding count
returns-in_ok-end-in-Union-clause-value c =
    union_here _ _ _ _ _ c.requires.2 c.if-at-words.false c.word_in.ensures.0 c.in-Some.ensures _ c.in-Union.is c.in_ok-end-in-Union.ensures

pub returns-in_ok-end-in-List-clause-value : goal.returns-in_ok-end-in-List-clause-value
unfolding count
returns-in_ok-end-in-List-clause-value c =
    list_here _ _ _ _ _ c.requires.2 c.if-at-words.false c.word_in.ensures.0 c.in-Some.ensures _ c.in-List.is c.in_ok-end-in-List.ensures

pub returns-in-Boolean-clause-value : goal.returns-in-Boolean-clause-value
unfolding count
returns-in-Boolean-clause-value c = boolean_here _ _ _ _ _ c.requires.2 c.if-at-words.false c.word_in.ensures.0 c.in-Some.ensures c.in-Boolean.is

pub returns-in-Number-clause-value : goal.returns-in-Number-clause-value
unfolding count
returns-in-Number-clause-value c =
    c.leaf_end.ensures ∙ leaf_here _ _ _ _ _ c.requires.2 c.if-at-words.false c.word_in.ensures.0 c.in-Some.ensures c.in-Number.is refl

pub returns-in-FixedBytes-clause-value : goal.returns-in-FixedBytes-clause-value
unfolding count
returns-in-FixedBytes-clause-value c =
    c.leaf_end-in-FixedBytes.ensures ∙ leaf_here _ _ _ _ _ c.requires.2 c.if-at-words.false c.word_in.ensures.0 c.in-Some.ensures c.in-FixedBytes.is refl

pub returns-in-FreeBytes-clause-value : goal.returns-in-FreeBytes-clause-value
unfolding count
returns-in-FreeBytes-clause-value c =
    c.leaf_end-in-FreeBytes.ensures ∙ leaf_here _ _ _ _ _ c.requires.2 c.if-at-words.false c.word_in.ensures.0 c.in-Some.ensures c.in-FreeBytes.is refl

pub returns-in-BitVector-clause-value : goal.returns-in-BitVector-clause-value
unfolding count
returns-in-BitVector-clause-value c =
    c.leaf_end-in-BitVector.ensures ∙ leaf_here _ _ _ _ _ c.requires.2 c.if-at-words.false c.word_in.ensures.0 c.in-Some.ensures c.in-BitVector.is refl

pub returns-in-BitList-clause-value : goal.returns-in-BitList-clause-value
unfolding count
returns-in-BitList-clause-value c =
    c.leaf_end-in-BitList.ensures ∙ leaf_here _ _ _ _ _ c.requires.2 c.if-at-words.false c.word_in.ensures.0 c.in-Some.ensures c.in-BitList.is refl
