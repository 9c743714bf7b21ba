-- Lists and sums over the numbers below one.
use Rattle.std.proofs.Common.{◌≡◌, ◌≢◌, ℕ, zero, suc, ◌+◌, ◌<◌, ◌≤◌, Bool, true, false, ◌∷◌, length, refl, sym, ap, ◌∙◌, ⊎_elim, arith, get_or}
use Rattle.std.proofs.Math.ListN.{set}
use Rattle.std.proofs.lemmas.Bool.{cases_eq, cases_Bool}
use Rattle.pst_base.specs.Below.{listed, sum_below, one_if}

-- ---- lists

pub listed-same : {A : Type 0} (n : ℕ) (f g : ℕ → A) → ((k : ℕ) → k < n → f k ≡ g k) → listed n f ≡ listed n g
listed-same zero f g h = refl
listed-same (suc n) f g h = λ i. h 0 (omega arith) i ∷ listed-same n (λ k. f (suc k)) (λ k. g (suc k)) (λ k l. h (suc k) (omega arith)) i

pub length-listed : {A : Type 0} (n : ℕ) (f : ℕ → A) → length (listed n f) ≡ n
length-listed zero f = refl
length-listed (suc n) f = ap suc (length-listed n (λ k. f (suc k)))

pub get_or-listed : {A : Type 0} (n : ℕ) (f : ℕ → A) (k : ℕ) (d : A) → k < n → get_or (listed n f) k d ≡ f k
get_or-listed zero f k d l = absurd (omega arith)
get_or-listed (suc n) f zero d l = refl
get_or-listed (suc n) f (suc k) d l = get_or-listed n (λ k. f (suc k)) k d (omega arith)

-- one entry of a list changes
pub listed-set : {A : Type 0} (n : ℕ) (f g : ℕ → A) (k : ℕ) (v : A) → k < n → g k ≡ v → ((j : ℕ) → j < n → j ≢ k → g j ≡ f j) → listed n g ≡ set (listed n f) k v
listed-set zero f g k v l here others = absurd (omega arith)
listed-set (suc n) f g zero v l here others = λ i. here i ∷ listed-same n (λ k. g (suc k)) (λ k. f (suc k)) (λ j m. others (suc j) (omega arith) (λ e. absurd (omega arith))) i
listed-set (suc n) f g (suc k) v l here others = λ i. others 0 (omega arith) (λ e. absurd (omega arith)) i ∷ listed-set n (λ k. f (suc k))
    (λ k. g (suc k)) k v (omega arith) here (λ j m ne. others (suc j) (omega arith) (λ e. ne (omega arith))) i

-- ---- sums

pub sum_below-same : (n : ℕ) (f g : ℕ → ℕ) → ((i : ℕ) → i < n → f i ≡ g i) → sum_below n f ≡ sum_below n g
sum_below-same zero f g h = refl
sum_below-same (suc n) f g h =
    let ih : sum_below n f ≡ sum_below n g = sum_below-same n f g (λ i l. h i (omega arith)) in
    let here : f n ≡ g n = h n (omega arith) in
    rw (ih, here) refl

pub sum_below-zero : (n : ℕ) (f : ℕ → ℕ) → ((i : ℕ) → i < n → f i ≡ 0) → sum_below n f ≡ 0
sum_below-zero zero f h = refl
sum_below-zero (suc n) f h = omega (arith, sum_below-zero n f (λ i l. h i (omega arith)), h n (omega arith))

pub sum_below-add : (n : ℕ) (f g : ℕ → ℕ) → sum_below n (λ i. f i + g i) ≡ sum_below n f + sum_below n g
sum_below-add zero f g = omega arith
sum_below-add (suc n) f g = omega (arith, sum_below-add n f g)

pub sum_below-swap : (n k : ℕ) (a : ℕ → ℕ → ℕ) → sum_below n (λ i. sum_below k (λ j. a i j)) ≡ sum_below k (λ j. sum_below n (λ i. a i j))
sum_below-swap zero k a = sym (sum_below-zero k (λ j. 0) (λ i l. refl))
sum_below-swap (suc n) k a =
    let ih : sum_below n (λ i. sum_below k (λ j. a i j)) ≡ sum_below k (λ j. sum_below n (λ i. a i j)) = sum_below-swap n k a in
    rw ih (sym (sum_below-add k (λ j. sum_below n (λ i. a i j)) (λ j. a n j)))

-- one index passes, and no other
pub sum_below-one : (n : ℕ) (f : ℕ → ℕ) (i : ℕ) → i < n → f i ≡ 1 → ((j : ℕ) → j < n → j ≢ i → f j ≡ 0) → sum_below n f ≡ 1
sum_below-one zero f i l one others = absurd (omega arith)
sum_below-one (suc n) f i l one others =
    ⊎_elim
    (λ (e : n ≡ i).
    let rest : sum_below n f ≡ 0 = sum_below-zero n f (λ j p. others j (omega arith) (omega arith)) in
    let here : f n ≡ 1 = ap f e ∙ one in
    omega (arith, rest, here))
    (λ (ne : n ≡ i → ⊥).
    let rest : sum_below n f ≡ 1 = sum_below-one n f i (omega arith) one (λ j p. others j (omega arith)) in
    let here : f n ≡ 0 = others n (omega arith) ne in
    omega (arith, rest, here))
    (cases_eq n i)

pub sum_below-first : (n : ℕ) (f : ℕ → ℕ) → sum_below (suc n) f ≡ f 0 + sum_below n (λ k. f (suc k))
sum_below-first zero f = omega arith
sum_below-first (suc n) f = omega (arith, sum_below-first n f)

pub sum_below-split : (a b : ℕ) (f : ℕ → ℕ) → sum_below (a + b) f ≡ sum_below a f + sum_below b (λ k. f (a + k))
sum_below-split a zero f = ap (λ n. sum_below n f) (let e : a + 0 ≡ a = omega arith in e) ∙ omega arith
sum_below-split a (suc b) f =
    ap (λ n. sum_below n f) (let e : a + suc b ≡ suc (a + b) = omega arith in e)
    ∙ omega (arith, sum_below-split a b f)

pub sum_below-le : (n : ℕ) (f g : ℕ → ℕ) → ((i : ℕ) → i < n → f i ≤ g i) → sum_below n f ≤ sum_below n g
sum_below-le zero f g h = omega arith
sum_below-le (suc n) f g h = omega (arith, sum_below-le n f g (λ i l. h i (omega arith)), h n (omega arith))

-- one summand falls by at least k, and none rises
pub sum_below-falls : (n : ℕ) (f g : ℕ → ℕ) (x k : ℕ) → x < n → f x + k ≤ g x → ((i : ℕ) → i < n → i ≢ x → f i ≤ g i) → sum_below n f + k ≤ sum_below n g
sum_below-falls zero f g x k l here others = absurd (omega arith)
sum_below-falls (suc n) f g x k l here others =
    ⊎_elim
    (λ (e : n ≡ x).
    let rest : sum_below n f ≤ sum_below n g = sum_below-le n f g (λ j p. others j (omega arith) (omega arith)) in
    let at : f n + k ≤ g n = rw e here in
    omega (arith, rest, at))
    (λ (ne : n ≡ x → ⊥).
    let rest : sum_below n f + k ≤ sum_below n g = sum_below-falls n f g x k (omega arith) here (λ j p. others j (omega arith)) in
    let at : f n ≤ g n = others n (omega arith) ne in
    omega (arith, rest, at))
    (cases_eq n x)

-- one summand rises by at most k, and no other does
pub sum_below-rises : (n : ℕ) (f g : ℕ → ℕ) (x k : ℕ) → f x ≤ g x + k → ((i : ℕ) → i < n → i ≢ x → f i ≤ g i) → sum_below n f ≤ sum_below n g + k
sum_below-rises zero f g x k here others = omega arith
sum_below-rises (suc n) f g x k here others =
    ⊎_elim
    (λ (e : n ≡ x).
    let rest : sum_below n f ≤ sum_below n g = sum_below-le n f g (λ j p. others j (omega arith) (omega arith)) in
    let at : f n ≤ g n + k = rw e here in
    omega (arith, rest, at))
    (λ (ne : n ≡ x → ⊥).
    let rest : sum_below n f ≤ sum_below n g + k = sum_below-rises n f g x k here (λ j p. others j (omega arith)) in
    let at : f n ≤ g n = others n (omega arith) ne in
    omega (arith, rest, at))
    (cases_eq n x)

-- ones
pub sum_below-ones : (n : ℕ) (f : ℕ → ℕ) → ((i : ℕ) → i < n → f i ≤ 1) → sum_below n f ≤ n
sum_below-ones zero f h = omega arith
sum_below-ones (suc n) f h = omega (arith, sum_below-ones n f (λ i l. h i (omega arith)), h n (omega arith))

-- nothing in all is nothing in each
pub sum_below-none : (n : ℕ) (f : ℕ → ℕ) → sum_below n f ≡ 0 → (i : ℕ) → i < n → f i ≡ 0
sum_below-none zero f e i l = absurd (omega arith)
sum_below-none (suc n) f e i l =
    ⊎_elim (λ (s : i ≡ n). rw s (omega (arith, e))) (λ (ne : i ≡ n → ⊥). sum_below-none n f (omega (arith, e)) i (omega arith)) (cases_eq i n)

-- ---- counting

pub count_le : (b : ℕ → Bool) (n : ℕ) → sum_below n (λ s. one_if (b s)) ≤ n
count_le b zero = omega arith
count_le b (suc n) = ⊎_elim (λ (e : b n ≡ true). rw e (omega (arith, count_le b n))) (λ (e : b n ≡ false). rw e (omega (arith, count_le b n))) (cases_Bool (b n))

pub all_counted : (b : ℕ → Bool) (n : ℕ) → ((s : ℕ) → s < n → b s ≡ true) → sum_below n (λ s. one_if (b s)) ≡ n
all_counted b zero h = refl
all_counted b (suc n) h = rw (h n (omega arith)) (omega (arith, all_counted b n (λ s l. h s (omega arith))))

pub counted_all : (b : ℕ → Bool) (n : ℕ) → sum_below n (λ s. one_if (b s)) ≡ n → (s : ℕ) → s < n → b s ≡ true
counted_all b zero h s l = absurd (omega arith)
counted_all b (suc n) h s l =
    ⊎_elim
    (λ (e : b n ≡ true).
    let h' : sum_below n (λ s. one_if (b s)) + 1 ≡ suc n = rw e at h in
    ⊎_elim (λ (q : s ≡ n). ap b q ∙ e) (λ (q : s ≡ n → ⊥). counted_all b n (omega arith) s (omega arith)) (cases_eq s n))
    (λ (e : b n ≡ false).
    let h' : sum_below n (λ s. one_if (b s)) + 0 ≡ suc n = rw e at h in
    absurd (omega (arith, count_le b n)))
    (cases_Bool (b n))
