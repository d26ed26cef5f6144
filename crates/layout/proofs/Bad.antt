-- A table's refusal is 20, with the first bad word, and no other. Assumes nothing.
use mathlib.Core.Path.{◌≡◌}
use mathlib.Core.List.{List}
use mathlib.Core.Bool.{Bool, true, false}
use Prim.Native.Nat.{ℕ, zero, suc, ◌+◌, ◌%◌}
use lib.ListN.{length}
use lib.Dec.{eqb, ltb, leb}
use Rattle.std.specs.declared.option.Option.{Option}
use Rattle.std.specs.declared.option.Option.TheVariants.{Some, None}
use Rattle.std.specs.declared.result.Result.{Result}
use Rattle.std.specs.declared.result.Result.TheVariants.{Ok, Err}
use Rattle.standard.specs.Choice.{pick, and_also}
use Rattle.standard.specs.Bytes.{word_at}
use Rattle.standard.specs.declared.Refusal.{Refusal}
use Rattle.standard.specs.declared.Refusal.TheVariants.{BadLayout}
use Rattle.layout.specs.Kinds.{kind_of}
use Rattle.layout.specs.Table.{onward, count, refs, counted, many, container_end_lem, list_end_lem, vector_end_lem, leaf_end_lem, kind_end, body_end_lem, types_end_lem, types_of, table_of}
use Rattle.layout.specs.declared.Kind.{Kind}

-- An answer whose refusal, if it is one, names a word
OnlyBad : Result ℕ Refusal → Type 0
OnlyBad x = (r : Refusal) → x ≡ Err r → (w : ℕ) × (r ≡ BadLayout w)

bad_word : (w : ℕ) → OnlyBad (Err (BadLayout w))
unfolding OnlyBad
bad_word w r e = let q : r ≡ BadLayout w = cc in (w, q)

good : (e : ℕ) → OnlyBad (Ok e)
unfolding OnlyBad
good e r h = absurd (cc)

bad_pick : (c : Bool) (x y : Result ℕ Refusal) → OnlyBad x → OnlyBad y → OnlyBad (pick c x y)
bad_pick true x y f g = f
bad_pick false x y f g = g

bad_onward : (x : Result ℕ Refusal) (k : ℕ → Result ℕ Refusal) → OnlyBad x → ((e : ℕ) → OnlyBad (k e)) → OnlyBad (onward x k)
bad_onward (Ok e) k f g = g e
bad_onward (Err r) k f g = f

module _ (l : List ℕ) where
  bad_refs : (t : ℕ) (none : Bool) (n a : ℕ) → OnlyBad (refs l t none a n)
  unfolding refs
  bad_refs t none zero a = good a
  bad_refs t none (suc n) a = bad_pick _ _ _ (bad_pick _ _ _ (bad_refs t none n (a + 1)) (bad_word _)) (bad_word _)

  bad_counted : (at most : ℕ) → OnlyBad (counted l at most)
  unfolding counted
  bad_counted at most = bad_pick _ _ _ (bad_pick _ _ _ (good _) (bad_word _)) (bad_word _)

  bad_many : (t at : ℕ) (none : Bool) (most : ℕ) → OnlyBad (many l t at none most)
  unfolding many
  bad_many t at none most = bad_onward _ _ (bad_counted at most) (λ n. bad_refs t none n (at + 2))

  bad_container : (t at : ℕ) → OnlyBad (container_end_lem l t at)
  unfolding container_end_lem
  bad_container t at = bad_onward _ _ (bad_many t at false 64) (λ e. bad_pick _ _ _ (good e) (bad_word at))

  bad_list : (t at : ℕ) → OnlyBad (list_end_lem l t at)
  unfolding list_end_lem
  bad_list t at = bad_onward _ _ (bad_refs t false 1 (at + 1)) (λ e. bad_pick _ _ _ (good _) (bad_word _))

  bad_vector : (t at : ℕ) → OnlyBad (vector_end_lem l t at)
  unfolding vector_end_lem
  bad_vector t at =
      bad_onward _ _ (bad_refs t false 1 (at + 1)) (λ e. bad_onward _ _ (bad_counted (at + 1) 4294967295) (λ n. bad_pick _ _ _ (good _) (bad_word at)))

  bad_leaf : (k : Kind) (at : ℕ) → OnlyBad (leaf_end_lem k l at)
  unfolding leaf_end_lem
  bad_leaf k at = bad_pick _ _ _ (bad_pick _ _ _ (good _) (bad_word _)) (bad_word _)

  bad_kind : (o : Option Kind) (t at : ℕ) → OnlyBad (kind_end o l t at)
  bad_kind None t at = bad_word at
  bad_kind (Some Kind.Container) t at = bad_container t at
  bad_kind (Some Kind.Union) t at = bad_many t at true 128
  bad_kind (Some Kind.List) t at = bad_list t at
  bad_kind (Some Kind.Vector) t at = bad_vector t at
  bad_kind (Some Kind.Boolean) t at = good _
  bad_kind (Some k) t at = bad_leaf k at

  bad_body : (t at : ℕ) → OnlyBad (body_end_lem l t at)
  unfolding body_end_lem
  bad_body t at = bad_pick _ _ _ (bad_kind (kind_of _) t at) (bad_word _)

  bad_types_end : (k t at : ℕ) → OnlyBad (types_end_lem l k t at)
  unfolding types_end_lem
  bad_types_end zero t at = good at
  bad_types_end (suc k) t at = bad_pick _ _ _ (bad_onward _ _ (bad_body t at) (λ e. bad_types_end k (t + 1) e)) (bad_word _)

  bad_types : OnlyBad (types_of l)
  unfolding types_of
  bad_types =
      let w = word_at l 0 in
      bad_pick (eqb (length l % 4) 0) _ _
      (bad_pick (ltb 0 (count l)) _ _
      (bad_pick (and_also (ltb 0 w) (leb w 64)) _ _
      (bad_pick (ltb w (count l)) _ _ (good w) (bad_word (count l)))
      (bad_word 0))
      (bad_word 0))
      (bad_word (count l))

  pub table_bad : (r : Refusal) → table_of l ≡ Err r → (w : ℕ) × (r ≡ BadLayout w)
  unfolding table_of OnlyBad
  table_bad r e =
      bad_onward _ _ bad_types (λ n. bad_onward _ _ (bad_types_end n 0 (n + 1)) (λ e. bad_pick _ _ _ (good n) (bad_word e))) r e
