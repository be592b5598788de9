-- What a worker that films is given, and what it does with it.
use Rattle.std.specs.Prelude.{◌≡◌, ℕ, ◌+◌, ◌-◌, ◌≤◌, ◌<◌, List, [], flat_map, length, Option, Some, None}
use Rattle.std.specs.Prelude.{vec_capacity}
use Rattle.w4_defs.specs.declared.console.Input.{Input}
use Rattle.w4_defs.specs.Image.{image}
use Rattle.w4_defs.specs.Reset.{Setup}
use Rattle.w4_defs.specs.Run.{run_state}
use Rattle.w4_segments.specs.declared.worker.Task.{Task}
use Rattle.w4_segments.specs.declared.worker.Worker.{Worker}
use Rattle.w4_defs.specs.Film.{run_images}
use Rattle.w4_segments.specs.Worker.{HasCartTypes}

-- a worker whose state is that of a run, and that has room for the screens from its first to its end, and
-- nothing in it
pub record CanFilm (setup : Setup) (disk : List ℕ) (inputs : List Input) (worker : Worker) : Type 0 where
  pub types : HasCartTypes setup.cart worker
  pub order : (task : Task) → worker.task ≡ Some task → task.place ≤ task.first
  pub some : (task : Task) → worker.task ≡ Some task → task.first < task.end
  pub within : (task : Task) → worker.task ≡ Some task → task.end ≤ length inputs + 1
  pub state : (task : Task) → worker.task ≡ Some task
      → run_state setup disk inputs task.place ≡ Some worker.console
  pub empty : worker.screens.items ≡ []
  pub room : (task : Task) → worker.task ≡ Some task → task.end - task.first ≤ vec_capacity worker.screens

-- the images of a task, where the run has a meaning
abbrev pub task_images : Setup → List ℕ → List Input → Option Task → Option (List ℕ)
task_images setup disk inputs None = Some []
task_images setup disk inputs (Some task) =
    run_images setup disk inputs task.first (task.end - task.first)

-- the images of the screens that a worker has
abbrev pub worker_images : Worker → List ℕ
worker_images worker = flat_map image worker.screens.items

-- it has made the screens of them
pub record HasFilmed (setup : Setup) (disk : List ℕ) (inputs : List Input) (old new : Worker) : Type 0 where
  pub types : HasCartTypes setup.cart new
  pub images : task_images setup disk inputs old.task ≡ Some (worker_images new)
