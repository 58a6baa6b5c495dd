-- What the items of a sequence that pass a test yield, by their dates: a body of earlier and later items yields the lines of the ones, then of the others.
-- Assumes nothing.
use mathlib.Core.Path.{◌≡◌, refl, ap, ap₂, ◌∙◌}
use Prim.Native.Nat.{ℕ, ◌+◌, ◌-◌, ◌≤◌}
use mathlib.Core.Bool.{Bool, true, false}
use mathlib.Core.List.{List, [], ◌∷◌, ◌++◌, append_assoc}
use native.Mathlib.Omega.{arith}
use native.Mathlib.Nat.{add_assoc}
use Rattle.base.specs.Tests.{pick}
use Rattle.rules.specs.Words.{Synchrony, ErrorWord}
use Rattle.rules.specs.Score.{Seq, end, action, group}
use Rattle.rules.specs.Rules.{Reading, Fate, Holder, fate_of, outcome_of, Outcome, played, dropped, undecided, enter, Line, line, run, Triple, triples, keep}
use Rattle.rules.specs.Groups.{select}

-- The lines of the actions whose dates pass the test A, and of the groups whose dates pass G; f says what becomes of an item by its date.
unfoldable pub sift : Reading → (A G : ℕ → Bool) → (ℕ → Fate) → (b s : ℕ) → Seq → List Line
sift R A G f b s end = []
sift R A G f b s (action d m p rest) = pick (A (b + (s + d))) (line p m (outcome_of R (f (b + (s + d)))) ∷ []) [] ++ sift R A G f b (s + d) rest
sift R A G f b s (group d y e body rest) = pick (G (b + (s + d))) (run R (enter (f (b + (s + d))) y e) 0 body) [] ++ sift R A G f b (s + d) rest

abbrev pub all : ℕ → Bool
all t = true

-- Where two holders do the same to each item of what is left, they yield the same lines.
pub run-alike : (R : Reading) (h k : Holder) (s u : ℕ) (x : Seq) → ((n : ℕ) → fate_of R h (s + n) ≡ fate_of R k (u + n)) → run R h s x ≡ run R k u x
unfolding run
run-alike R h k s u end f = refl
run-alike R h k s u (action d m p r) f = rw (f d, run-alike R h k (s + d) (u + d) r (λ n. simp add_assoc (f (d + n))))
run-alike R h k s u (group d y e b r) f = rw (f d, run-alike R h k (s + d) (u + d) r (λ n. simp add_assoc (f (d + n))))

-- A body as it stands.
pub sift-all : (R : Reading) (h : Holder) (f : ℕ → Fate) (b s : ℕ) (x : Seq) → ((n : ℕ) → fate_of R h n ≡ f (b + n)) → run R h s x ≡ sift R all all f b s x
unfolding run sift pick
sift-all R h f b s end F = refl
sift-all R h f b s (action d m p r) F = rw (F (s + d), sift-all R h f b (s + d) r F)
sift-all R h f b s (group d y e x r) F = rw (F (s + d), sift-all R h f b (s + d) r F)

-- What passes the test from the date n on is dated c or later.
abbrev pub NotBefore : (ℕ → ℕ) → ℕ → (ℕ → Bool) → ℕ → Type 0
NotBefore dated c T n = (t : ℕ) → n ≤ t → T t ≡ true → c ≤ dated t

-- A later item is dated no earlier.
abbrev pub Monotone : (ℕ → ℕ) → Type 0
Monotone dated = (t u : ℕ) → t ≤ u → dated t ≤ dated u

-- Selected items at the dates that they are given, under a holder k that starts at the date a.
module _ (R : Reading) (dated : ℕ → ℕ) (rises : Monotone dated) (A G : ℕ → Bool) (k : Holder) (g : ℕ → Fate) (a : ℕ) (K : (n : ℕ) → fate_of R k n ≡ g (a + n)) (b : ℕ) where
  placed : (u c t : ℕ) → a + u ≡ c → c ≤ t → fate_of R k (u + (t - c)) ≡ g t
  placed u c t e l = K (u + (t - c)) ∙ ap g (omega arith)

  abbrev Selects : (s u c : ℕ) → Seq → Type 0
  Selects s u c x = run R k u (select dated A G b s c x) ≡ sift R A G (λ t. g (dated t)) b s x

  abbrev Later : (s : ℕ) → Seq → Type 0
  Later s x = (u c : ℕ) → a + u ≡ c → NotBefore dated c A (b + s) → NotBefore dated c G (b + s) → Selects s u c x

  select-action : (s u c d m p : ℕ) (r : Seq) (v : Bool) → A (b + (s + d)) ≡ v → a + u ≡ c → NotBefore dated c A (b + s) → NotBefore dated c G (b + s) → Later (s + d) r →
      Selects s u c (action d m p r)
  unfolding run select sift pick
  select-action s u c d m p r true y e i j ih =
      let t = b + (s + d) in
      let l : c ≤ dated t = i t (omega arith) y in
      rw (y, select, pick, placed u c (dated t) e l)
      (ap (λ (z : List Line). line p m (outcome_of R (g (dated t))) ∷ z)
      (ih (u + (dated t - c)) (dated t) (omega arith) (λ n h w. rises t n h) (λ n h w. rises t n h)))
  select-action s u c d m p r false y e i j ih = rw (y, select, pick) (ih u c e (λ n h. i n (omega arith)) (λ n h. j n (omega arith)))

  select-group : (s u c d : ℕ) (o : Synchrony) (w : ErrorWord) (x r : Seq) (v : Bool) → G (b + (s + d)) ≡ v → a + u ≡ c → NotBefore dated c A (b + s) →
      NotBefore dated c G (b + s) → Later (s + d) r → Selects s u c (group d o w x r)
  unfolding run select sift pick
  select-group s u c d o w x r true y e i j ih =
      let t = b + (s + d) in
      let l : c ≤ dated t = j t (omega arith) y in
      rw (y, select, pick, placed u c (dated t) e l)
      (ap (λ (z : List Line). run R (enter (g (dated t)) o w) 0 x ++ z)
      (ih (u + (dated t - c)) (dated t) (omega arith) (λ n h w. rises t n h) (λ n h w. rises t n h)))
  select-group s u c d o w x r false y e i j ih = rw (y, select, pick) (ih u c e (λ n h. i n (omega arith)) (λ n h. j n (omega arith)))

  pub sift-select : (s u c : ℕ) (x : Seq) → a + u ≡ c → NotBefore dated c A (b + s) → NotBefore dated c G (b + s) →
      run R k u (select dated A G b s c x) ≡ sift R A G (λ t. g (dated t)) b s x
  unfolding run select sift
  sift-select s u c end e i j = refl
  sift-select s u c (action d m p r) e i j = select-action s u c d m p r _ refl e i j (λ v w. sift-select (s + d) v w r)
  sift-select s u c (group d o w x r) e i j = select-group s u c d o w x r _ refl e i j (λ v w. sift-select (s + d) v w r)

-- Only the dates that pass count.
abbrev pub SameWhere : (ℕ → Bool) → (f g : ℕ → Fate) → Type 0
SameWhere T f g = (t : ℕ) → T t ≡ true → f t ≡ g t

picked : {X : Type 0} (v : Bool) (a b c : X) → (v ≡ true → a ≡ b) → pick v a c ≡ pick v b c
unfolding pick
picked true a b c h = h refl
picked false a b c h = refl

pub sift-same : (R : Reading) (A G : ℕ → Bool) (f g : ℕ → Fate) (b s : ℕ) (x : Seq) → SameWhere A f g → SameWhere G f g → sift R A G f b s x ≡ sift R A G g b s x
unfolding sift
sift-same R A G f g b s end p q = refl
sift-same R A G f g b s (action d m h r) p q =
    ap₂ ◌++◌ (picked _ _ _ _ (λ y. ap (λ (z : Fate). line h m (outcome_of R z) ∷ []) (p _ y))) (sift-same R A G f g b (s + d) r p q)
sift-same R A G f g b s (group d o w x r) p q =
    ap₂ ◌++◌ (picked _ _ _ _ (λ y. ap (λ (z : Fate). run R (enter z o w) 0 x) (q _ y))) (sift-same R A G f g b (s + d) r p q)

-- Equal tests sift alike.
pub sift-tests : (R : Reading) (A B : ℕ → Bool) (f : ℕ → Fate) (b s : ℕ) (x : Seq) → ((t : ℕ) → A t ≡ B t) → sift R A A f b s x ≡ sift R B B f b s x
unfolding sift
sift-tests R A B f b s end p = refl
sift-tests R A B f b s (action d m h r) p = rw (p (b + (s + d)), sift-tests R A B f b (s + d) r p)
sift-tests R A B f b s (group d o w x r) p = rw (p (b + (s + d)), sift-tests R A B f b (s + d) r p)

-- Nothing passes, nothing is left.
pub sift-none : (R : Reading) (A : ℕ → Bool) (f : ℕ → Fate) (b s : ℕ) (x : Seq) → ((t : ℕ) → b + s ≤ t → A t ≡ false) → sift R A A f b s x ≡ []
unfolding sift pick
sift-none R A f b s end p = refl
sift-none R A f b s (action d m h r) p = rw (p (b + (s + d)) (omega arith), pick) (sift-none R A f b (s + d) r (λ t l. p t (omega arith)))
sift-none R A f b s (group d o w x r) p = rw (p (b + (s + d)) (omega arith), pick) (sift-none R A f b (s + d) r (λ t l. p t (omega arith)))

-- Of groups alone, only how they are entered counts.
pub sift-groups : (R : Reading) (G : ℕ → Bool) (f g : ℕ → Fate) (b s : ℕ) (x : Seq) → ((t : ℕ) (o : Synchrony) (w : ErrorWord) → enter (f t) o w ≡ enter (g t) o w) →
    sift R (λ t. false) G f b s x ≡ sift R (λ t. false) G g b s x
unfolding sift pick
sift-groups R G f g b s end p = refl
sift-groups R G f g b s (action d m h r) p = sift-groups R G f g b (s + d) r p
sift-groups R G f g b s (group d o w x r) p = rw (p (b + (s + d)) o w, sift-groups R G f g b (s + d) r p)

-- Each date that passes A passes just one of B and C, and no date of B comes after one of C.
pub record Splits (A B C : ℕ → Bool) : Type 0 where
  pub earlier : (t : ℕ) → B t ≡ true → (A t ≡ true) × (C t ≡ false)
  pub later : (t : ℕ) → B t ≡ false → A t ≡ C t
  pub apart : (t u : ℕ) → t ≤ u → C t ≡ true → B u ≡ false

module _ (R : Reading) (A B C : ℕ → Bool) (f : ℕ → Fate) (b : ℕ) (w : Splits A B C) where
  abbrev Split : (s : ℕ) → Seq → Type 0
  Split s x = sift R A A f b s x ≡ sift R B B f b s x ++ sift R C C f b s x

  split-item : (l : List Line) (s : ℕ) (t : ℕ) (x : Seq) (v y : Bool) → B t ≡ v → C t ≡ y → t ≡ b + s → Split s x →
      pick (A t) l [] ++ sift R A A f b s x ≡ (pick (B t) l [] ++ sift R B B f b s x) ++ (pick (C t) l [] ++ sift R C C f b s x)
  unfolding pick
  split-item l s t x true y p q e ih = let z = w.earlier t p in rw (p, z.0, z.1, pick, ih, append_assoc)
  split-item l s t x false true p q e ih = rw (p, w.later t p, q, pick, ih, sift-none R B f b s x (λ u h. w.apart t u (omega arith) q))
  split-item l s t x false false p q e ih = rw (p, w.later t p, q, pick, ih)

  pub sift-split : (s : ℕ) (x : Seq) → sift R A A f b s x ≡ sift R B B f b s x ++ sift R C C f b s x
  unfolding sift
  sift-split s end = refl
  sift-split s (action d m p r) = split-item _ (s + d) (b + (s + d)) r _ _ refl refl refl (sift-split (s + d) r)
  sift-split s (group d o e x r) = split-item _ (s + d) (b + (s + d)) r _ _ refl refl refl (sift-split (s + d) r)

-- ---- triples

keep_append : (o : Outcome) (m : ℕ) (l k : List Triple) → keep o m (l ++ k) ≡ keep o m l ++ k
unfolding keep
keep_append (played i d) m l k = refl
keep_append dropped m l k = refl
keep_append undecided m l k = refl

pub triples-append : (l k : List Line) → triples (l ++ k) ≡ triples l ++ triples k
unfolding triples
triples-append [] k = refl
triples-append (line p m o ∷ l) k = ap (keep o m) (triples-append l k) ∙ keep_append o m (triples l) (triples k)

no_action : (R : Reading) (v : Bool) (p m : ℕ) (f : Fate) → (v ≡ true → outcome_of R f ≡ dropped) → triples (pick v (line p m (outcome_of R f) ∷ []) []) ≡ []
unfolding triples pick keep
no_action R true p m f h = rw (h refl)
no_action R false p m f h = refl

-- Where the actions that pass are all dropped, the groups alone yield triples.
pub sift-dropped : (R : Reading) (T : ℕ → Bool) (f : ℕ → Fate) (b s : ℕ) (x : Seq) → ((t : ℕ) → T t ≡ true → outcome_of R (f t) ≡ dropped) →
    triples (sift R T T f b s x) ≡ triples (sift R (λ t. false) T f b s x)
unfolding sift pick
sift-dropped R T f b s end p = refl
sift-dropped R T f b s (action d m h r) p =
    let t = b + (s + d) in
    triples-append (pick (T t) (line h m (outcome_of R (f t)) ∷ []) []) (sift R T T f b (s + d) r)
    ∙ ap₂ ◌++◌ (no_action R (T t) h m (f t) (p t)) (sift-dropped R T f b (s + d) r p)
sift-dropped R T f b s (group d o e x r) p = simp (triples-append, sift-dropped R T f b (s + d) r p)
