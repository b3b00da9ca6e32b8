-- How runs of interaction trees are put together.
use Rattle.std.proofs.Common.{List, ◌++◌}
use Rattle.host.specs.Calls.{Call, Reply, Event}
use Rattle.host.specs.Interaction.{Interaction, done, ask, bind, Traces}

-- a run of one tree, and then of the one that follows from its value
pub traces-bind : {S A B : Type 0} (did : S → (c : Call) → Reply c → S → Type 0) (t : Interaction A) (f : A → Interaction B) (s m s' : S) (p q : List Event)
    (x : A) (y : B) → Traces did t s p x m → Traces did (f x) m q y s' → Traces did (bind t f) s (p ++ q) y s'
traces-bind did (done z) f s m s' p q x y h k = rw (h.0, ← h.1, ← h.2) k
traces-bind did (ask c g) f s m s' p q x y h k = (h.0, h.1, h.2 ++ q, rw h.3, h.4, traces-bind did (g h.0) f h.1 m s' h.2 q x y h.5 k)
