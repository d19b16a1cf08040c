-- What ways make of counts.
use Rattle.std.proofs.Common.{◌≡◌, ℕ, zero, suc, ◌+◌, ◌-◌, ◌*◌, ◌<◌, ◌≤◌, sym, ap, ◌∙◌, arith, ⊎_elim, min, max}
use Rattle.std.proofs.lemmas.Bool.{cases_lt}
use Rattle.std.proofs.Math.Nat.{mul-le-mul_left, mul-sub}
use Rattle.sh_counts.specs.Ways.{made_by}

-- more of more
pub way_grows : (t p m l u x y : ℕ) → x ≤ y → made_by t p m l u x ≤ made_by t p m l u y
way_grows t p m l u x y h = let more : t * x ≤ t * y = mul-le-mul_left t h in omega arith

-- a least and a greatest count of a least and a greatest one
low_end : (l u a b c : ℕ) → l ≤ u → a ≤ b → c ≤ a → max (max l (min u a)) (min (max l (min u b)) c) ≡ max l (min u a)
low_end l u a b c ordered more less = omega arith

high_end : (l u a b c : ℕ) → l ≤ u → a ≤ b → b ≤ c → max (max l (min u a)) (min (max l (min u b)) c) ≡ max l (min u b)
high_end l u a b c ordered more less = omega arith

between : (l u a b c : ℕ) → l ≤ u → a ≤ c → c ≤ b → max (max l (min u a)) (min (max l (min u b)) c) ≡ max l (min u c)
between l u a b c ordered low high = omega arith

-- a way after another one
pub way_behind : (t p m l u t1 p1 m1 l1 u1 n : ℕ) → l ≤ u → l1 ≤ u1
    → made_by (t * t1) (t * p1 + p) (t * m1 + m) (made_by t p m l u l1) (made_by t p m l u u1) n ≡ made_by t p m l u (made_by t1 p1 m1 l1 u1 n)
way_behind t p m l u t1 p1 m1 l1 u1 n ordered ordered1 =
    let a = t1 * n + p1 in
    let c = t * t1 * n + (t * p1 + p) - (t * m1 + m) in
    let ends : t * l1 ≤ t * u1 = mul-le-mul_left t ordered1 in
    let joined : t * t1 * n + t * p1 ≡ t * a = omega arith in
    let less : t * (a - m1) ≡ t * a - t * m1 = mul-sub t a m1 in
    ⊎_elim
    (λ (h : a < m1).
    let few : t * a ≤ t * m1 = mul-le-mul_left t (let le : a ≤ m1 = omega arith in le) in
    let none : made_by t1 p1 m1 l1 u1 n ≡ l1 = omega arith in
    low_end l u (t * l1 + p - m) (t * u1 + p - m) c ordered (omega arith) (omega arith) ∙ ap (made_by t p m l u) (sym none))
    (λ (h : m1 ≤ a).
    let many : t * m1 ≤ t * a = mul-le-mul_left t h in
    ⊎_elim
    (λ (low : a - m1 < l1).
    let under : t * (a - m1) ≤ t * l1 = mul-le-mul_left t (let le : a - m1 ≤ l1 = omega arith in le) in
    let is : made_by t1 p1 m1 l1 u1 n ≡ l1 = omega arith in
    low_end l u (t * l1 + p - m) (t * u1 + p - m) c ordered (omega arith) (omega arith) ∙ ap (made_by t p m l u) (sym is))
    (λ (low : l1 ≤ a - m1).
    let above : t * l1 ≤ t * (a - m1) = mul-le-mul_left t low in
    ⊎_elim
    (λ (high : u1 < a - m1).
    let over : t * u1 ≤ t * (a - m1) = mul-le-mul_left t (let le : u1 ≤ a - m1 = omega arith in le) in
    let is : made_by t1 p1 m1 l1 u1 n ≡ u1 = omega arith in
    high_end l u (t * l1 + p - m) (t * u1 + p - m) c ordered (omega arith) (omega arith) ∙ ap (made_by t p m l u) (sym is))
    (λ (high : a - m1 ≤ u1).
    let below : t * (a - m1) ≤ t * u1 = mul-le-mul_left t high in
    let is : made_by t1 p1 m1 l1 u1 n ≡ a - m1 = omega arith in
    let same : c ≡ t * (a - m1) + p - m = omega arith in
    between l u (t * l1 + p - m) (t * u1 + p - m) c ordered (omega arith) (omega arith)
    ∙ ap (λ y. max l (min u y)) same
    ∙ ap (made_by t p m l u) (sym is))
    (cases_lt u1 (a - m1)))
    (cases_lt (a - m1) l1))
    (cases_lt a m1)

-- what a way takes lower and lower ends at its least count
pub way_falls : (t p m l u c k x : ℕ) → k ≡ min (made_by t p m l u c) c → made_by t p m l u k < k → x ≤ c → x ≤ made_by t p m l u x → x ≤ l
way_falls t p m l u c k x is falls le own =
    ⊎_elim
    (λ (h : l < x).
    let within : x ≤ k = (let more = way_grows t p m l u x c le in omega arith) in
    let slow : t * (k - x) < k - x = (
    let parts : t * (k - x) ≡ t * k - t * x = mul-sub t k x in
    let more : t * x ≤ t * k = mul-le-mul_left t within in
    omega arith) in
    absurd (never t slow falls is))
    (λ (h : x ≤ l). h)
    (cases_lt l x)
  where
    never : (s : ℕ) → s * (k - x) < k - x → made_by s p m l u k < k → k ≡ min (made_by s p m l u c) c → ⊥
    never zero slow fall same = omega arith
    never (suc s) slow fall same = omega arith

pub behind_is : (t p m l u t1 p1 m1 l1 u1 times plus minus least most n : ℕ) → l ≤ u → l1 ≤ u1
    → times ≡ t * t1 → plus ≡ t * p1 + p → minus ≡ t * m1 + m → least ≡ made_by t p m l u l1 → most ≡ made_by t p m l u u1
    → made_by times plus minus least most n ≡ made_by t p m l u (made_by t1 p1 m1 l1 u1 n)
behind_is t p m l u t1 p1 m1 l1 u1 times plus minus least most n ordered ordered1 e1 e2 e3 e4 e5 =
    ap (λ x. made_by x plus minus least most n) e1
    ∙ ap (λ x. made_by (t * t1) x minus least most n) e2
    ∙ ap (λ x. made_by (t * t1) (t * p1 + p) x least most n) e3
    ∙ ap (λ x. made_by (t * t1) (t * p1 + p) (t * m1 + m) x most n) e4
    ∙ ap (λ x. made_by (t * t1) (t * p1 + p) (t * m1 + m) (made_by t p m l u l1) x n) e5
    ∙ way_behind t p m l u t1 p1 m1 l1 u1 n ordered ordered1
