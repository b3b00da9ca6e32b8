-- What holds at the end of an interaction tree, whatever is answered.
use Rattle.std.proofs.Common.{List}
use Rattle.std.specs.List.{fold}
use Rattle.host.specs.Calls.{Call, Reply, Event}
use Rattle.host.specs.Interaction.{Interaction, done, ask, bind, Traces}

-- each call and its answer move a state
module _ {S : Type 0} (moved : S → (c : Call) → Reply c → S) where
  -- whatever is answered from the state s on, R holds of the state and the value at the end
  abbrev pub Always : {A : Type 0} → (S → A → Type 0) → S → Interaction A → Type 0
  Always R s (done x) = R s x
  Always R s (ask c k) = (a : Reply c) → Always R (moved s c a) (k a)

  pub always_then : {A B : Type 0} (L : S → A → Type 0) (R : S → B → Type 0) (s : S) (t : Interaction A) (f : A → Interaction B) → Always L s t
      → ((u : S) (x : A) → L u x → Always R u (f x)) → Always R s (bind t f)
  always_then L R s (done x) f h k = k s x h
  always_then L R s (ask c g) f h k = λ a. always_then L R (moved s c a) (g a) f (h a) k

  -- so it holds at the end of each trace
  pub always_traced : {W A : Type 0} (did : W → (c : Call) → Reply c → W → Type 0) (R : S → A → Type 0) (s : S) (t : Interaction A) (w w' : W) (p : List Event)
      (x : A) → Always R s t → Traces did t w p x w' → R (fold (λ u e. moved u e.0 e.1) s p) x
  always_traced did R s (done y) w w' p x h r = rw (r.0, r.1) h
  always_traced did R s (ask c k) w w' p x h r = rw r.3 (always_traced did R (moved s c r.0) (k r.0) r.1 w' r.2 x (h r.0) r.5)

  -- what always holds holds at the end
  pub always_any : {A : Type 0} (R : S → A → Type 0) → ((s : S) (x : A) → R s x) → (s : S) (t : Interaction A) → Always R s t
  always_any R k s (done x) = k s x
  always_any R k s (ask c g) = λ a. always_any R k (moved s c a) (g a)
