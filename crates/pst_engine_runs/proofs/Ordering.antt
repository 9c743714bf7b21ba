-- What calls in order come to on the machine alone.
use Rattle.std.proofs.Common.{◌≡◌, ℕ, suc, List, [], ◌∷◌, Some, refl, sym, ap, ◌∙◌, subst, slice_get}
use Rattle.pst_program.specs.Meaning.{World, Ending, Normal, Returned, Trapped, Spent}
use Rattle.pst_program.specs.Outcome.{TaskCall, next_call, in_order}
use Rattle.pst_program.specs.Sound.{IsSoundWorld, Grown, world_in}
use Rattle.pst_program.proofs.Fewer.{Paid, paid_quiet, Counted, counted_quiet}
use Rattle.pst_program.proofs.Growth.{grown_same, grown_joined}
use Rattle.pst_program.proofs.InOrder.{next_keeps, in_order_keeps}
use Rattle.pst_program.proofs.More.{More, ahead}
use Rattle.pst_code.specs.declared.procedure.Parts.{Parts}
use Rattle.pst_code.specs.Valid.{IsValidCode}
use Rattle.pst_code.specs.Calls.{CallsEndIn, NextEndsIn}
use Rattle.pst_engine_runs.specs.Bare.{machine_call}
use Rattle.pst_engine_runs.proofs.Calling.{IsCallable, LeavesSound, one_ends, one_leaves, one_more, one_counted, call_ends_once}

abbrev pub AreCallable : Parts → List TaskCall → Type 0
AreCallable parts calls = (i : ℕ) (c : TaskCall) → slice_get calls i ≡ Some c → IsCallable parts c

-- calls in order
abbrev pub machine_calls : Parts → List TaskCall → World → Ending
machine_calls parts calls w = in_order (machine_call parts) calls w

-- ---- the end

next_once : (parts : Parts) (calls : List TaskCall) (o : Ending) → ((w : World) → CallsEndIn parts calls w o → machine_calls parts calls w ≡ o)
    → (e : Ending) → NextEndsIn e (λ v. CallsEndIn parts calls v o) o → next_call e (machine_calls parts calls) ≡ o
next_once parts calls o rest (Normal env w) to = rest w to
next_once parts calls o rest (Returned v w) to = rest w to
next_once parts calls o rest (Trapped t line w) to = sym to
next_once parts calls o rest (Spent line w) to = sym to

-- an end that the machine comes to is the one
pub calls_end_once : (parts : Parts) → IsValidCode parts → (calls : List TaskCall) (w : World) (o : Ending) → CallsEndIn parts calls w o → machine_calls parts calls w ≡ o
calls_end_once parts valid [] w o to = sym to
calls_end_once parts valid (c ∷ calls) w o to =
    ap (λ x. next_call x (machine_calls parts calls)) (call_ends_once parts valid c w to.0 to.1) ∙ next_once parts calls o (λ v. calls_end_once parts valid calls v o) to.0 to.2

next_comes : (parts : Parts) (calls : List TaskCall) → ((w : World) → IsSoundWorld parts.shape w
    → CallsEndIn parts calls w (machine_calls parts calls w)) → (e : Ending) → IsSoundWorld parts.shape (world_in e)
    → NextEndsIn e (λ v. CallsEndIn parts calls v (next_call e (machine_calls parts calls))) (next_call e (machine_calls parts calls))
next_comes parts calls rest (Normal env w) s = rest w s
next_comes parts calls rest (Returned v w) s = rest w s
next_comes parts calls rest (Trapped t line w) s = refl
next_comes parts calls rest (Spent line w) s = refl

pub calls_end : (parts : Parts) → IsValidCode parts → (calls : List TaskCall) → AreCallable parts calls → (w : World) → IsSoundWorld parts.shape w
    → CallsEndIn parts calls w (machine_calls parts calls w)
calls_end parts valid [] are w s = refl
calls_end parts valid (c ∷ calls) are w s = (
  machine_call parts c w,
  one_ends parts valid c (are 0 c refl) w s,
  next_comes parts calls (calls_end parts valid calls (λ i d e. are (suc i) d e)) (machine_call parts c w)
      (one_leaves parts valid c (are 0 c refl) w s).world,
)

-- ---- what is left

joined : (parts : Parts) (a b : World) (o : Ending) → Grown a b → Paid a b → LeavesSound parts b o → LeavesSound parts a o
joined parts a b o grown paid l = record { world = l.world; grown = grown_joined a b (world_in o) grown l.grown; paid = paid_quiet.joined a b (world_in o) paid l.paid }

next_leaves : (parts : Parts) (w : World) (go : World → Ending) → ((v : World) → IsSoundWorld parts.shape v → LeavesSound parts v (go v))
    → (e : Ending) → LeavesSound parts w e → LeavesSound parts w (next_call e go)
next_leaves parts w go rest (Normal env v) l = joined parts w v (go v) l.grown l.paid (rest v l.world)
next_leaves parts w go rest (Returned x v) l = joined parts w v (go v) l.grown l.paid (rest v l.world)
next_leaves parts w go rest (Trapped t line v) l = l
next_leaves parts w go rest (Spent line v) l = l

pub calls_leave : (parts : Parts) → IsValidCode parts → (calls : List TaskCall) → AreCallable parts calls → (w : World) → IsSoundWorld parts.shape w → LeavesSound parts w (machine_calls parts calls w)
calls_leave parts valid [] are w s = record { world = s; grown = grown_same w w refl refl (λ n. refl); paid = paid_quiet.same w }
calls_leave parts valid (c ∷ calls) are w s =
    next_leaves parts w (machine_calls parts calls) (calls_leave parts valid calls (λ i d e. are (suc i) d e)) (machine_call parts c w) (one_leaves parts valid c (are 0 c refl) w s)

-- ---- counts, and more charges

pub calls_counted : (parts : Parts) (calls : List TaskCall) (w : World) → Counted w (world_in (machine_calls parts calls w))
calls_counted parts calls w = in_order_keeps Counted counted_quiet (machine_call parts) (one_counted parts) calls w

next_more : (parts : Parts) (d : ℕ) (go : World → Ending) → ((w : World) → IsSoundWorld parts.shape w → More d (go w) (go (ahead d w)))
    → ((w : World) → Counted w (world_in (go w))) → (o p : Ending) → IsSoundWorld parts.shape (world_in o) → More d o p
    → More d (next_call o go) (next_call p go)
next_more parts d go rest keeps (Normal env w) p s m = subst (λ (x : Ending). More d (go w) (next_call x go)) (sym m) (rest w s)
next_more parts d go rest keeps (Returned v w) p s m = subst (λ (x : Ending). More d (go w) (next_call x go)) (sym m) (rest w s)
next_more parts d go rest keeps (Trapped t line w) p s m = ap (λ (x : Ending). next_call x go) m
next_more parts d go rest keeps (Spent line w) p s m = next_keeps Counted counted_quiet p w go m keeps

pub calls_more : (parts : Parts) → IsValidCode parts → (d : ℕ) (calls : List TaskCall) → AreCallable parts calls → (w : World)
    → IsSoundWorld parts.shape w → More d (machine_calls parts calls w) (machine_calls parts calls (ahead d w))
calls_more parts valid d [] are w s = refl
calls_more parts valid d (c ∷ calls) are w s =
    let one = one_leaves parts valid c (are 0 c refl) w s in
    next_more parts d (machine_calls parts calls) (calls_more parts valid d calls (λ i x e. are (suc i) x e)) (calls_counted parts calls)
    (machine_call parts c w) (machine_call parts c (ahead d w)) one.world (one_more parts valid c (are 0 c refl) d w s)
