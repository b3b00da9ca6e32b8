-- Trees that go on alike, letting go apart.
use Rattle.std.proofs.Common.{◌≡◌, Bool, true, false, if◌then◌else◌, List, [], ◌∷◌, refl}
use Rattle.std.specs.Prelude.{⊤}
use Rattle.host.specs.Calls.{Call, Reply, Event, let_go, to_host}
use Rattle.host.specs.Interaction.{Interaction, done, ask, bind, Traces}
use Rattle.drive.specs.Follows.{heard_calls, Follows}

-- the answers of which P holds are spoken of
module _ (P : (c : Call) → Reply c → Type 0) where
  -- the tree u makes the calls that the tree t makes, letting go apart, and R holds of what they end with
  abbrev pub Like : {A B : Type 0} → (A → B → Type 0) → Interaction A → Interaction B → Type 0
  Like {A} {B} R (done x) u = (y : B) × (u ≡ done y) × R x y
  Like R (ask (to_host (let_go child)) k) u = Like R (k tt) u
  Like {A} {B} R (ask c k) u = (m : Reply c → Interaction B) × (u ≡ ask c m) × ((a : Reply c) → P c a → Like R (k a) (m a))

  pub like_then : {A B C D : Type 0} (L : A → B → Type 0) (R : C → D → Type 0) (t : Interaction A) (u : Interaction B) (f : A → Interaction C) (g : B
      → Interaction D) → Like L t u → ((x : A) (y : B) → L x y → Like R (f x) (g y)) → Like R (bind t f) (bind u g)
  like_then L R (done x) u f g h k = rw h.1 (k x h.0 h.2)
  like_then L R (ask (to_host (let_go child)) j) u f g h k = like_then L R (j tt) u f g h k
  like_then L R (ask c j) u f g h k = rw h.1 ((λ a. bind (h.0 a) g), refl, λ a p. like_then L R (j a) (h.0 a) f g (h.2 a p) k)

  -- what one tree makes of its value at the end
  pub like_made : {A B C : Type 0} (L : A → B → Type 0) (R : C → B → Type 0) (t : Interaction A) (u : Interaction B) (g : A → C) → Like L t u
      → ((x : A) (y : B) → L x y → R (g x) y) → Like R (bind t (λ x. done (g x))) u
  like_made L R (done x) u g h k = (h.0, h.1, k x h.0 h.2)
  like_made L R (ask (to_host (let_go child)) j) u g h k = like_made L R (j tt) u g h k
  like_made L R (ask c j) u g h k = (h.0, h.1, λ a p. like_made L R (j a) (h.0 a) g (h.2 a p) k)

  -- a choice that both trees make
  pub like_if : {A B : Type 0} (R : A → B → Type 0) (b : Bool) (t v : Interaction A) (u w : Interaction B) → Like R t u → Like R v w
      → Like R (if b then t else v) (if b then u else w)
  like_if R true t v u w h k = h
  like_if R false t v u w h k = k

  -- it holds of the answers of a trace
  abbrev pub Spoken : List Event → Type 0
  Spoken [] = ⊤
  Spoken ((c, a) ∷ es) = P c a × Spoken es

  -- what the tree u comes to, given the answers of a trace of the tree t
  pub like_follows : {W A B : Type 0} (did : W → (c : Call) → Reply c → W → Type 0) (R : A → B → Type 0) (t : Interaction A) (u : Interaction B) (w w' : W)
      (p : List Event) (x : A) → Like R t u → Traces did t w p x w' → Spoken p → (y : B) × Follows u (heard_calls p) y × R x y
  like_follows did R (done z) u w w' p x h r s = rw (h.1, r.0, r.1) (h.0, (refl, refl, refl), h.2)
  like_follows did R (ask (to_host (let_go child)) j) u w w' p x h r s = rw r.3 (like_follows did R (j tt) u r.1 w' r.2 x h r.5 (rw r.3 at s).1)
  like_follows did R (ask c j) u w w' p x h r s =
      let spoken : Spoken ((c, r.0) ∷ r.2) = rw r.3 at s in
      let rest = like_follows did R (j r.0) (h.0 r.0) r.1 w' r.2 x (h.2 r.0 spoken.0) r.5 spoken.1 in
      rw (h.1, r.3) (rest.0, (r.0, tt, heard_calls r.2, refl, tt, rest.1), rest.2)
