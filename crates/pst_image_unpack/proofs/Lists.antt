-- Lists that grow by one at the end.
use Rattle.std.proofs.Common.{◌≡◌, ℕ, zero, suc, ◌+◌, ◌<◌, ◌≤◌, List, [], ◌∷◌, ◌++◌, length, get_or, slice_get, Some, map, take, refl, sym, ap, ap₂, ◌∙◌, arith}
use Rattle.std.proofs.lemmas.List.{map-append, map_more, take_more, length-take-le}
use Rattle.pst_base.specs.Below.{listed}
use Rattle.pst_nodes.specs.declared.links.Link.TheVariants.{Out}
use Rattle.pst_nodes.specs.declared.node.Node.{Node}
use Rattle.pst_nodes.specs.Arena.{link_at}
use Rattle.pst_base.specs.declared.shape.TypeShape.{TypeShape}
use Rattle.pst_rows.specs.declared.content.Content.{Content}
use Rattle.pst_image_meaning.specs.Denoted.{content_of, contents_from}

pub listed-snoc : {A : Type 0} (n : ℕ) (f : ℕ → A) → listed (suc n) f ≡ listed n f ++ f n ∷ []
listed-snoc zero f = refl
listed-snoc (suc n) f = ap (λ xs. f 0 ∷ xs) (listed-snoc n (λ k. f (suc k)))

-- one more of them
pub listed-step : {A : Type 0} (n : ℕ) (f : ℕ → A) (xs ys : List A) (x : A) → ys ≡ xs ++ x ∷ [] → xs ≡ listed n f → x ≡ f n → ys ≡ listed (n + 1) f
listed-step n f xs ys x grown so_far is =
    grown ∙ ap (λ (zs : List _). zs ++ x ∷ []) so_far ∙ ap (λ z. listed n f ++ z ∷ []) is ∙ sym (listed-snoc n f) ∙ ap (λ k. listed k f) (let next : suc n ≡ n + 1 = omega arith in next)

-- the contents of one slot more
contents-snoc : (t : TypeShape) (g : ℕ) (ns : List ℕ) (n : ℕ) → contents_from t g (ns ++ n ∷ []) ≡ contents_from t g ns ++ content_of t (g + length ns) n ∷ []
contents-snoc t g [] n = ap (λ k. content_of t k n ∷ []) (let same : g ≡ g + 0 = omega arith in same)
contents-snoc t g (m ∷ ns) n =
    ap (λ cs. content_of t g m ∷ cs) (contents-snoc t (suc g) ns n
    ∙ ap (λ k. contents_from t (suc g) ns ++ content_of t k n ∷ []) (let same : suc g + length ns ≡ g + suc (length ns) = omega arith in same))

-- so it is of a list that is made slot by slot
pub contents-step : (t : TypeShape) (ns : List ℕ) (i : ℕ) (xs ys : List Content) (x : Content) → ys ≡ xs ++ x ∷ [] → i < length ns
    → xs ≡ contents_from t 0 (take i ns) → x ≡ content_of t i (get_or ns i 0) → ys ≡ contents_from t 0 (take (i + 1) ns)
contents-step t ns i xs ys x grown l so_far is =
    let many : i ≡ 0 + length (take i ns) = omega (arith, length-take-le i ns (let le : i ≤ length ns = omega (arith, l) in le)) in
    grown ∙ ap (λ (zs : List Content). zs ++ x ∷ []) so_far ∙ ap (λ z. contents_from t 0 (take i ns) ++ z ∷ []) (is ∙ ap (λ k. content_of t k (get_or ns i 0)) many)
    ∙ sym (contents-snoc t 0 (take i ns) (get_or ns i 0)) ∙ ap (contents_from t 0) (sym (take_more ns i 0 l))

pub there-at : {A : Type 0} (xs : List A) (i : ℕ) (x : A) → i < length xs → x ≡ get_or xs i x → slice_get xs i ≡ Some x
there-at [] i x l is = absurd (omega arith)
there-at (y ∷ ys) zero x l is = ap Some (sym is)
there-at (y ∷ ys) (suc i) x l is = there-at ys i x (omega (arith, l)) is

-- so it is of what is seen of a list that is made item by item
pub seen-step : {A B C : Type 0} (g : A → C) (f : B → C) (ps : List B) (i : ℕ) (p : B) (xs ys : List A) (x : A) → ys ≡ xs ++ x ∷ [] → i < length ps
    → p ≡ get_or ps i p → map g xs ≡ map f (take i ps) → g x ≡ f p → map g ys ≡ map f (take (i + 1) ps)
seen-step g f ps i p xs ys x grown l item so_far is =
    ap (map g) grown ∙ map-append g xs (x ∷ []) ∙ ap₂ (λ zs z. zs ++ z ∷ []) so_far (is ∙ ap f item) ∙ sym (map_more f ps i p l)

-- a node more that waits for nothing
out-push : (ns : List Node) (n : Node) → ((i : ℕ) → link_at ns i ≡ Out) → n.header.link ≡ Out → (i : ℕ) → link_at (ns ++ n ∷ []) i ≡ Out
out-push [] n all here zero = here
out-push [] n all here (suc i) = refl
out-push (m ∷ ns) n all here zero = all 0
out-push (m ∷ ns) n all here (suc i) = out-push ns n (λ j. all (suc j)) here i

pub out-step : (ns ms : List Node) (n : Node) → ms ≡ ns ++ n ∷ [] → ((i : ℕ) → link_at ns i ≡ Out) → n.header.link ≡ Out → (i : ℕ) → link_at ms i ≡ Out
out-step ns ms n grown all here i = ap (λ (ks : List Node). link_at ks i) grown ∙ out-push ns n all here i
