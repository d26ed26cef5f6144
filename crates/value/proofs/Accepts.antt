-- The writer accepts the form of a value of the type and no other form, and the value is the only one that has it. Assumes nothing.
--     form-one        two values with one form are equal
--     form_iff        25 is not the answer exactly if the form is some value's
--     fault_iff       25 is the answer exactly if it is no value's
--     written_iff     a length is the answer exactly if the form is that of a value with an encoding of this length, and there is room for it
use mathlib.Core.Path.{◌≡◌, refl, sym, ap, ap₂, ◌∙◌}
use mathlib.Core.Logic.{◌⊎◌, inl, inr, ⊎_elim, ◌↔◌}
use mathlib.Core.List.{List, [], ◌∷◌, ◌++◌, append-nil}
use mathlib.Core.Bool.{Bool, true, false}
use Prim.Native.Nat.{ℕ, ◌+◌, ◌≤◌, ◌<◌, ◌^◌}
use native.Mathlib.Omega.{arith}
use borrow.Author.Tests.{ltb-false}
use lib.Dec.{ltb}
use lib.ListN.{length, take, drop, drop_of_length-le}
use lib.Seq.{sets, take_at, drop_at}
use Rattle.standard.specs.Choice.{pick}
use Rattle.standard.specs.Bytes.{Bytes, num}
use Rattle.standard.specs.Types.{Ty, Tys, Opts, number, boolean, fixed_bytes, free_bytes, bit_vector, bit_list, container, union, list, vector, end, field, over, bare, body}
use Rattle.standard.specs.Types.{Rising, LegalTy, LegalAll, LegalOptions}
use Rattle.standard.specs.Serialize.{Val, Vals, Option, Each, Ok, OkAll, OkOption, serialize}
use Rattle.standard.specs.declared.Refusal.{Refusal}
use Rattle.standard.specs.declared.Refusal.TheVariants.{BadValue, TooLarge, NoRoom}
use Rattle.standard.proofs.Bytes.{num-le}
use Rattle.standard.proofs.Bits.{bit_num-injective}
use Rattle.standard.proofs.Elements.{All, copies, all-copies, as_list, length-as_list, by_copies, ok-copies}
use Rattle.standard.proofs.Laws.{injective, legal-copies}
use Rattle.layout.specs.Table.{table_of}
use Rattle.message.specs.Check.{message_type}
use Rattle.message.proofs.Theorem.{message-legal}
use Rattle.message.proofs.Copies.{contents-copies, bodies-copies}
use Rattle.message.specs.Form.{in_order, contents, contents_all, contents_option, bodies, bodies_all, bodies_option}
use Rattle.value.specs.Walk.{Walked, upto, wrong, walk_item}
use Rattle.value.specs.Write.{whole, walk_all, write_item_lem, written_of, write_message, written_bytes}
use Rattle.value.specs.Steps.{IsUpto}
use Rattle.std.specs.declared.result.Result.{Result}
use Rattle.value.proofs.Forms.{raw-num, Formed, formed, formed-option, formed-alone, walked-alone, form-written}
use Rattle.value.proofs.Values.{Fault, item, Says, item-said}

-- Two lists with one start of one length
same_start : (x y r s : List ℕ) → length x ≡ length y → x ++ r ≡ y ++ s → (x ≡ y) × (r ≡ s)
same_start x y r s l e = (
  sym (take_at x r (length y) l) ∙ ap (take (length y)) e ∙ take_at y s (length y) refl,
  sym (drop_at x r (length y) l) ∙ ap (drop (length y)) e ∙ drop_at y s (length y) refl,
)

-- Two walks with one end
upto-words : {a b m n : ℕ} → upto (0 + a) b ≡ upto (0 + m) n → a ≡ m
upto-words {a} {b} {m} {n} e = let q : 0 + a ≡ 0 + m = cc in omega arith

upto-bytes : {a b m n : ℕ} → upto a (0 + b) ≡ upto m (0 + n) → b ≡ n
upto-bytes {a} {b} {m} {n} e = let q : 0 + b ≡ 0 + n = cc in omega arith

-- A selector is the first word of no later option.
apart :
    {A : Type 0} (os : Opts) (s : ℕ) (r : List ℕ) (v : Option os) → Rising (s + 1) os → LegalOptions os → OkOption os v
    → s ∷ r ≡ contents_option os v → A
apart os s r v g l o e =
    let y = bodies_option os v in
    let f = formed-option os v (s + 1) g l o (s ∷ r) y 0 0 [] [] (e ∙ sym (append-nil (contents_option os v))) (sym (append-nil y)) (omega arith) in
    absurd (omega (arith, f.from))

-- Two values with one form are equal: a field's form ends where the walk ends, so it has the same length in both.
FormOne : Ty → Type 0
FormOne t = (v w : Val t) → LegalTy t → Ok t v → Ok t w → contents t v ≡ contents t w → bodies t v ≡ bodies t w → v ≡ w

row_one :
    (ts : Tys) → All FormOne ts → (vs ws : Vals ts) → LegalAll ts → OkAll ts vs → OkAll ts ws → contents_all ts vs ≡ contents_all ts ws
    → bodies_all ts vs ≡ bodies_all ts ws → vs ≡ ws
unfolding FormOne contents bodies serialize Ok LegalTy
row_one end k vs ws l o p e f = refl
row_one (field t ts) k vs ws l o p e f =
    let c = contents_all (field t ts) vs in
    let b = bodies_all (field t ts) vs in
    let x = formed t vs.0 l.0 o.0 c b 0 0 (contents_all ts vs.1) (bodies_all ts vs.1) refl refl (omega arith) in
    let y = formed t ws.0 l.0 p.0 c b 0 0 (contents_all ts ws.1) (bodies_all ts ws.1) e f (omega arith) in
    let q = sym x.walk ∙ y.walk in
    let i = same_start _ _ (contents_all ts vs.1) (contents_all ts ws.1) (upto-words q) e in
    let j = same_start _ _ (bodies_all ts vs.1) (bodies_all ts ws.1) (upto-bytes q) f in
    ap₂ (λ (u : Val t) (us : Vals ts). (u, us))
    (k.0 vs.0 ws.0 l.0 o.0 p.0 i.0 j.0)
    (row_one ts k.1 vs.1 ws.1 l.1 o.1 p.1 i.1 j.1)

-- As many elements with one form
module _ (e : Ty) (k : FormOne e) (l : LegalTy e) where
  counted-one :
      (n m : ℕ) → n ≡ m → (vs : Vals (copies e n)) (ws : Vals (copies e m)) → OkAll (copies e n) vs → OkAll (copies e m) ws
      → contents_all (copies e n) vs ≡ contents_all (copies e m) ws → bodies_all (copies e n) vs ≡ bodies_all (copies e m) ws
      → as_list e n vs ≡ as_list e m ws
  counted-one n m q =
      rw q (λ vs ws o p d f. ap (as_list e m) (row_one (copies e m) (all-copies FormOne e m k) vs ws (legal-copies e m l) o p d f))

  abbrev Oks : List (Val e) → Type 0
  Oks vs = Each (λ (v : Val e). Ok e v) vs

  abbrev words : List (Val e) → List ℕ
  words vs = in_order (λ (v : Val e). contents e v) vs

  abbrev bytes : List (Val e) → List ℕ
  bytes vs = in_order (λ (v : Val e). bodies e v) vs

  elements-one : (vs ws : List (Val e)) → length vs ≡ length ws → Oks vs → Oks ws → words vs ≡ words ws → bytes vs ≡ bytes ws → vs ≡ ws
  elements-one vs ws =
      by_copies e (λ vs. length vs ≡ length ws → Oks vs → Oks ws → words vs ≡ words ws → bytes vs ≡ bytes ws → vs ≡ ws)
      (λ n xs.
      by_copies e
      (λ ws. length (as_list e n xs) ≡ length ws → Oks (as_list e n xs) → Oks ws → words (as_list e n xs) ≡ words ws → bytes (as_list e n xs) ≡ bytes ws
      → as_list e n xs ≡ ws)
      (λ m ys q o p d f.
      counted-one n m (sym (length-as_list e n xs) ∙ q ∙ length-as_list e m ys) xs ys (ok-copies e n xs o) (ok-copies e m ys p)
      (sym (contents-copies e n xs) ∙ d ∙ contents-copies e m ys) (sym (bodies-copies e n xs) ∙ f ∙ bodies-copies e m ys))
      ws)
      vs

first_word : (n m : ℕ) (x y : List ℕ) → n ∷ x ≡ m ∷ y → (n ≡ m) × (x ≡ y)
first_word n m x y e = (cc, cc)

mutual
  unfolding FormOne contents bodies serialize Ok LegalTy Rising

  pub form-one :
      (t : Ty) (v w : Val t) → LegalTy t → Ok t v → Ok t w → contents t v ≡ contents t w → bodies t v ≡ bodies t w → v ≡ w
  form-one (number t w) n m l o p e f = sym (num-le w n o) ∙ ap num f ∙ num-le w m p
  form-one (boolean t) x y l o p e f = injective (boolean t) x y l o p (omega arith) f
  form-one (fixed_bytes t n) x y l o p e f = f
  form-one (free_bytes t limit) x y l o p e f = f
  form-one (bit_vector t n) x y l o p e f = bit_num-injective x y (o ∙ sym p) (sym (raw-num x) ∙ ap num f ∙ raw-num y)
  form-one (bit_list t limit) x y l o p e f = bit_num-injective x y (cc) (sym (raw-num x) ∙ ap num f ∙ raw-num y)
  form-one (container t ts) vs ws l o p e f = row_one ts (all_one ts) vs ws l.1 o p e f
  form-one (union t os) v w l o p e f = option-one os v w 0 l.1 l.2 o p e f
  form-one (list t a limit) vs ws l o p e f =
      let q = first_word (length vs) (length ws) _ _ e in
      elements-one a (λ v w d g h i j. form-one a v w d g h i j) l vs ws q.0 o.1 p.1 q.1 f
  form-one (vector t a n) vs ws l o p e f =
      elements-one a (λ v w d g h i j. form-one a v w d g h i j) l.1 vs ws (o.0 ∙ sym p.0) o.1 p.1 e f

  all_one : (ts : Tys) → All FormOne ts
  all_one end = tt
  all_one (field t ts) = ((λ v w l o p e f. form-one t v w l o p e f), all_one ts)

  option-one :
      (os : Opts) (v w : Option os) (n : ℕ) → Rising n os → LegalOptions os → OkOption os v → OkOption os w
      → contents_option os v ≡ contents_option os w → bodies_option os v ≡ bodies_option os w → v ≡ w
  option-one over v w n r l o p e f = absurd v
  option-one (bare s os) (inl x) (inl y) n r l o p e f = refl
  option-one (bare s os) (inl x) (inr w) n r l o p e f = apart os s [] w r.2 l p e
  option-one (bare s os) (inr v) (inl y) n r l o p e f = apart os s [] v r.2 l o (sym e)
  option-one (bare s os) (inr v) (inr w) n r l o p e f = ap inr (option-one os v w (s + 1) r.2 l o p e f)
  option-one (body s t os) (inl x) (inl y) n r l o p e f = ap inl (form-one t x y l.0 o p (cc) f)
  option-one (body s t os) (inl x) (inr w) n r l o p e f = apart os s (contents t x) w r.2 l.1 p e
  option-one (body s t os) (inr v) (inl y) n r l o p e f = apart os s (contents t y) v r.2 l.1 o (sym e)
  option-one (body s t os) (inr v) (inr w) n r l o p e f = ap inr (option-one os v w (s + 1) r.2 l.1 o p e f)

-- c and b are the form of v, a value of the type t.
pub record IsForm (t : Ty) (c b : List ℕ) (v : Val t) : Type 0 where
  pub ok : Ok t v
  pub words : contents t v ≡ c
  pub bytes : bodies t v ≡ b

-- Some value has this form.
abbrev pub SomeForm : Ty → List ℕ → List ℕ → Type 0
SomeForm t c b = (v : Val t) × IsForm t c b v

-- The answer is 25.
abbrev pub Is25 : Result ℕ Refusal → Type 0
Is25 w = (which at : ℕ) × (w ≡ Result.Err (BadValue which at))

module _ (t : Ty) (c b : List ℕ) where
  -- What the walk of a whole message says: nothing is left over, or there is a fault.
  abbrev Ends : Walked → Type 0
  Ends (upto m n) = SomeForm t c b
  Ends (wrong r) = Fault r

  used_up : (l x : List ℕ) (m : ℕ) → l ≡ x ++ drop m l → length l ≤ m → x ≡ l
  used_up l x m e h = sym (append-nil x) ∙ ap (λ (r : List ℕ). x ++ r) (sym (drop_of_length-le l h)) ∙ sym e

  whole-said : (h : Bytes b) (w : Walked) → Says c b h (item t) 0 0 w → Ends (whole c b w)
  whole-said h (wrong r) p = p
  whole-said h (upto m n) p = go (ltb m (length c)) (ltb n (length b)) refl refl
    where
      go : (q r : Bool) → ltb m (length c) ≡ q → ltb n (length b) ≡ r → Ends (pick q (wrong (BadValue 0 m)) (pick r (wrong (BadValue 1 n)) (upto m n)))
      go true r d e = (0, m, refl)
      go false true d e = (1, n, refl)
      go false false d e =
          (p.0, record { ok = p.1; words = used_up c _ m p.2 (ltb-false _ _ d); bytes = used_up b _ n p.3 (ltb-false _ _ e) })

  all_said : Bytes b → Ends (walk_all t c b)
  all_said h = whole-said h (walk_item t c b 0 0) (item-said c b h t 0 0)

  -- The form of a value is walked to its end, and says the value's encoding.
  module _ (l : LegalTy t) (v : Val t) (f : IsForm t c b v) where
    here : Formed t v c b 0 0
    here = rw (f.words, f.bytes) at (formed-alone t v l f.ok)

    walked : walk_all t c b ≡ upto (length c) (length b)
    walked = rw (f.words, f.bytes) at (walked-alone t v l f.ok)

  pub walk_iff : LegalTy t → Bytes b → IsUpto (walk_all t c b) ↔ SomeForm t c b
  walk_iff l h = (go (walk_all t c b) (all_said h), (λ (x : SomeForm t c b). rw (walked l x.0 x.1) tt))
    where
      go : (w : Walked) → Ends w → IsUpto w → SomeForm t c b
      go (upto m n) p u = p
      go (wrong r) p u = absurd u

-- What is answered of bytes x behind a walk without fault
module _ (i j : ℕ) (x o : List ℕ) where
  never_25 : Is25 (written_of (upto i j) x o) → ⊥
  never_25 = go (ltb 4294967295 (length x)) (ltb (length o) (length x))
    where
      go : (p q : Bool) → Is25 (pick p (Result.Err TooLarge) (pick q (Result.Err (NoRoom (length x) (length o))) (Result.Ok (length x)))) → ⊥
      go true q k = let e = k.2 in let z : ◌≡◌ {A = ℕ} 0 1 = cc in omega arith
      go false true k = let e = k.2 in let z : ◌≡◌ {A = ℕ} 0 1 = cc in omega arith
      go false false k = let e = k.2 in let z : ◌≡◌ {A = ℕ} 0 1 = cc in omega arith

  length-says : (k : ℕ) → written_of (upto i j) x o ≡ Result.Ok k → (length x ≡ k) × (length x < 2 ^ 32) × (length x ≤ length o)
  length-says k = go (ltb 4294967295 (length x)) (ltb (length o) (length x)) refl refl
    where
      go :
          (p q : Bool) → ltb 4294967295 (length x) ≡ p → ltb (length o) (length x) ≡ q
          → pick p (Result.Err TooLarge) (pick q (Result.Err (NoRoom (length x) (length o))) (Result.Ok (length x))) ≡ Result.Ok k
          → (length x ≡ k) × (length x < 2 ^ 32) × (length x ≤ length o)
      go true q d f e = let z : ◌≡◌ {A = ℕ} 0 1 = cc in absurd (omega arith)
      go false true d f e = let z : ◌≡◌ {A = ℕ} 0 1 = cc in absurd (omega arith)
      go false false d f e = let small : length x ≤ 4294967295 = ltb-false _ _ d in (cc, omega arith, ltb-false _ _ f)

-- c and b are the form of v, whose encoding has k bytes: less than 2^32, and there is room for them in o.
pub record Writes (t : Ty) (c b o : List ℕ) (k : ℕ) (v : Val t) : Type 0 where
  pub form : IsForm t c b v
  pub long : length (serialize t v) ≡ k
  pub small : k < 2 ^ 32
  pub room : k ≤ length o

-- The call, under a legal table.
module _ (l : List ℕ) (n : ℕ) (g : Bytes l) (e : table_of l ≡ Result.Ok n) (c b : List ℕ) (h : Bytes b) (o : List ℕ) where
  legal : LegalTy (message_type l n)
  legal = message-legal l n g e [] (omega arith)

  answered : (w : Walked) → walk_all (message_type l n) c b ≡ w → write_message l c b o ≡ written_of w (write_item_lem (message_type l n) c b 0 0) o
  unfolding write_message
  answered w d = rw (e, d)

  -- Either the form is some value's, or the answer is 25; and not both.
  form_or_25 : SomeForm (message_type l n) c b ⊎ Is25 (write_message l c b o)
  form_or_25 = go (walk_all (message_type l n) c b) refl (all_said (message_type l n) c b h)
    where
      go :
          (w : Walked) → walk_all (message_type l n) c b ≡ w → Ends (message_type l n) c b w
          → SomeForm (message_type l n) c b ⊎ Is25 (write_message l c b o)
      go (upto i j) d p = inl p
      go (wrong r) d p = inr (p.0, p.1, answered (wrong r) d ∙ ap Result.Err p.2)

  form-answered :
      (v : Val (message_type l n)) → IsForm (message_type l n) c b v
      → write_message l c b o ≡ written_of (upto (length c) (length b)) (serialize (message_type l n) v) o
  form-answered v f =
      let t = message_type l n in
      let w = upto (length c) (length b) in
      answered w (walked t c b legal v f) ∙ ap (λ (x : List ℕ). written_of w x o) (here t c b legal v f).write

  not_both : SomeForm (message_type l n) c b → Is25 (write_message l c b o) → ⊥
  not_both x y =
      never_25 (length c) (length b) (serialize (message_type l n) x.0) o (y.0, y.1, sym (form-answered x.0 x.1) ∙ y.2)

  -- The writer accepts a form, that is, does not answer 25, exactly if it is the form of a value of the type;
  -- so it answers 25 exactly if no value of the type has this form. And no two values have it.
  pub form_iff : (Is25 (write_message l c b o) → ⊥) ↔ SomeForm (message_type l n) c b
  form_iff = (
    (λ (x : Is25 (write_message l c b o) → ⊥). ⊎_elim (λ p. p) (λ (p : Is25 (write_message l c b o)). absurd (x p)) form_or_25),
    not_both,
  )

  pub fault_iff : Is25 (write_message l c b o) ↔ (SomeForm (message_type l n) c b → ⊥)
  fault_iff = (
    (λ (x : Is25 (write_message l c b o)) (p : SomeForm (message_type l n) c b). not_both p x),
    (λ (x : SomeForm (message_type l n) c b → ⊥). ⊎_elim (λ (p : SomeForm (message_type l n) c b). absurd (x p)) (λ p. p) form_or_25),
  )

  pub form_only : (v w : Val (message_type l n)) → IsForm (message_type l n) c b v → IsForm (message_type l n) c b w → v ≡ w
  form_only v w x y = form-one (message_type l n) v w legal x.ok y.ok (x.words ∙ sym y.words) (x.bytes ∙ sym y.bytes)

  -- What is written then: the value's encoding
  pub written :
      (k : ℕ) (v : Val (message_type l n)) → Writes (message_type l n) c b o k v
      → (write_message l c b o ≡ Result.Ok k) × (written_bytes l c b o ≡ sets o 0 (serialize (message_type l n) v))
  written k v w =
      let f = w.form in
      let p = form-written l n g e v f.ok o (rw w.long w.small) (rw w.long w.room) in
      rw (f.words, f.bytes, w.long) at p

  -- A length is answered exactly if the form is that of a value whose encoding has it, and there is room.
  no_length : (k : ℕ) → write_message l c b o ≡ Result.Ok k → Is25 (write_message l c b o) → ⊥
  no_length k d p = let e : Result.Ok k ≡ Result.Err (BadValue p.0 p.1) = sym d ∙ p.2 in let z : ◌≡◌ {A = ℕ} 0 1 = cc in omega arith

  pub written_iff : (k : ℕ) → (write_message l c b o ≡ Result.Ok k) ↔ ((v : Val (message_type l n)) × Writes (message_type l n) c b o k v)
  written_iff k = (
    (λ (d : write_message l c b o ≡ Result.Ok k).
        let p = form_iff.0 (no_length k d) in
        let s = length-says (length c) (length b) (serialize (message_type l n) p.0) o k (sym (form-answered p.0 p.1) ∙ d) in
        (p.0, record { form = p.1; long = s.0; small = rw s.0 at s.1; room = rw s.0 at s.2 })),
    (λ (x : (v : Val (message_type l n)) × Writes (message_type l n) c b o k v). (written k x.0 x.1).0),
  )
