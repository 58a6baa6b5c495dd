-- The bytes that are handed on name the path's folder.
-- Assumes nothing.
use Rattle.links.proofs.PathSteps.{folders}
use Rattle.disk.proofs.saving.open_folder_of.Goals as goal

pub open_folder-requires : goal.open_folder-requires
open_folder-requires c = search folders

pub open_folder-requires-2 : goal.open_folder-requires-2
open_folder-requires-2 c = search folders
