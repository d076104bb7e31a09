use Rattle.std.proofs.Common.{arith, ◌≡◌, ◌≢◌, Option, Result}
use Rattle.pcl_request.specs.Requests.{task_profile}
use Rattle.pcl_request.specs.declared.profiles.Shrinking.{Shrinking}
use Rattle.pcl_request.specs.declared.request.Layout.{Layout}
use Rattle.pcl_request.specs.declared.request.Resolution.{Resolution}
use Rattle.pcl_request.specs.declared.request.Resolution.TheVariants.{Given, FirstAccepted}
use Rattle.pcl_request.specs.declared.request.Task.{Task}
use Rattle.pcl_request.specs.declared.request.Task.TheVariants.{Shrink}
use Rattle.pcl_command.proofs.Names.{List, ℕ, inr, err_from_is_err_and, Err, Keeps-refl, Dpi, Profile, Fault, Memory, IsSeenAt}
use Rattle.pcl_command.specs.Tasks.{IsDone, IsDoneSeen}
use Rattle.pcl_command.proofs.running.do_read.Goals as goal
use Rattle.pcl_command.proofs.running.do_read.Goals.{in_default-via-in-Shrink+in_default, in_default-via-in_default}

-- a job that isn't to be shrunk for each resolution at which it is accepted
abbrev pub IsForOne : Task → Resolution → Type 0
IsForOne (Shrink how report) FirstAccepted = ⊥
IsForOne task resolution = Unit {0}

for_one : (task : Task) (resolution : Resolution) → ((how : Shrinking) (report : Option Layout) → task ≢ Shrink how report)
    → IsForOne task resolution
for_one task resolution other = grind (arith, other)

-- a job is seen so, whatever lent it
seen_by : (resolution : Resolution) (dpi : Dpi) {job lent : List ℕ} {profile found : Profile} → lent ≡ job → found ≡ profile
    → IsSeenAt resolution found lent dpi → IsSeenAt resolution profile job dpi
seen_by resolution dpi p q seen = rw (← p, ← q) seen

-- the task is done at the resolution at which the job is seen
done_seen : (task : Task) (resolution : Resolution) (dpi : Dpi) (job : List ℕ) (old new : Option (List ℕ))
    (done : Result (Unit {0}) Fault) → IsForOne task resolution → IsSeenAt resolution (task_profile task) job dpi
    → IsDone task dpi job old new done → IsDoneSeen task resolution job old new done
done_seen task (Given dpi) at job old new done one seen d = rw seen at d
done_seen (Shrink how report) FirstAccepted dpi job old new done one seen d = absurd one
done_seen task FirstAccepted dpi job old new done one seen d = inr (dpi, seen, d)

-- memory ran out before that was known
unseen : (task : Task) (resolution : Resolution) (job : List ℕ) (held : Option (List ℕ)) → IsForOne task resolution
    → IsDoneSeen task resolution job held held (Err Memory)
unseen task resolution job held one = grind (arith, Keeps-refl)

pub returns-in-Shrink-FirstAccepted : goal.returns-in-Shrink-FirstAccepted
returns-in-Shrink-FirstAccepted g c =
    inr (
      c.in_ok-job.job,
      c.in_ok-job.ensures,
      rw (c.in-Shrink-FirstAccepted.is-0, c.in-Shrink-FirstAccepted.is-1) (rw c.deref.ensures.value at c.write_smallest.ensures),
    )

pub returns-in_err-dpi-in_default : goal.returns-in_err-dpi-in_default
returns-in_err-dpi-in_default g c =
    let p = err_from_is_err_and c.from_residual-in_err-dpi-in_default.result c.from_residual-in_err-dpi-in_default.ensures.1 in
    let one : IsForOne c.args.task c.args.resolution = elim c.in_default.branch [
      | in_default-via-in-Shrink+in_default w ↦ rw (w.in_default.is-0, w.in_default.is-1) tt
      | in_default-via-in_default w ↦ for_one c.args.task c.args.resolution w.in_default.not-Shrink-0
    ] in
    inr (c.in_ok-job.job, c.in_ok-job.ensures, rw (p.1, p.2) (unseen c.args.task c.args.resolution c.in_ok-job.job.items _ one))

pub returns : goal.returns
returns g c =
    let one : IsForOne c.args.task c.args.resolution = elim c.in_default.branch [
      | in_default-via-in-Shrink+in_default w ↦ rw (w.in_default.is-0, w.in_default.is-1) tt
      | in_default-via-in_default w ↦ for_one c.args.task c.args.resolution w.in_default.not-Shrink-0
    ] in
    inr (
      c.in_ok-job.job,
      c.in_ok-job.ensures,
      done_seen c.args.task c.args.resolution c.in_ok-dpi-in_default.dpi c.in_ok-job.job.items _ _ _ one
          (seen_by c.args.resolution c.in_ok-dpi-in_default.dpi c.deref-in_default.ensures.value c.profile.ensures
          c.in_ok-dpi-in_default.ensures)
          (rw c.deref-in_default-2.ensures.value at c.do_task.ensures),
    )
