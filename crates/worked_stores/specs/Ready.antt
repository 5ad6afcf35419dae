-- A store of the tests that may be written to.
use Rattle.std.specs.Prelude.{◌≡◌, ℕ, None}
use Rattle.aria_base.specs.Orders.{Database}
use Rattle.aria_base.specs.Schemas.{IsConsistent}
use Rattle.disk_model.specs.Histories.{History}
use Rattle.proc_lang.specs.Catalogs.{Plan}
use Rattle.store_files.specs.Stores.{Rests}
use Rattle.aria_store.specs.Stands.{Kept}

-- Its files are at rest unless the disk failed, so many batches were run before its checkpoint, and the rows are of the catalogue.
pub record IsReady (disk : History) (store : Kept) (before : ℕ) (plan : Plan) (rows : Database) : Type 0 where
  pub rests : store.files.closed ≡ None → Rests disk store.files
  pub batches : before ≡ store.files.head.batches
  pub consistent : IsConsistent plan.tables rows
