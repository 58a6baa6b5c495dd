-- Small paths, worked by hand: the folder of each, and where a link leads.
-- Assumes nothing.
use mathlib.Core.Path.{◌≡◌, refl}
use Rattle.base.specs.Tests.{pick}
use Rattle.ascii.specs.Text.{bytes_of}
use Rattle.ascii.specs.Words.{begins}
use Rattle.links.specs.Paths.{up_to_slash, or_here, folder_of, kept_size, next_path}

pub record Folders : Type 0 where
  pub alone : folder_of (bytes_of "file") ≡ bytes_of "."
  pub top : folder_of (bytes_of "/file") ≡ bytes_of "/"
  pub below : folder_of (bytes_of "a/b/file") ≡ bytes_of "a/b/"
  pub empty : folder_of (bytes_of "") ≡ bytes_of "."

pub folders-right : Folders
unfolding folder_of or_here up_to_slash
folders-right = record { alone = refl; top = refl; below = refl; empty = refl }

pub record Leads : Type 0 where
  pub beside : next_path (bytes_of "link") (bytes_of "file") ≡ bytes_of "file"
  pub in_folder : next_path (bytes_of "a/link") (bytes_of "file") ≡ bytes_of "a/file"
  pub upwards : next_path (bytes_of "/a/link") (bytes_of "../b/file") ≡ bytes_of "/a/../b/file"
  pub absolute : next_path (bytes_of "a/link") (bytes_of "/file") ≡ bytes_of "/file"

pub leads-right : Leads
unfolding next_path kept_size begins pick up_to_slash
leads-right = record { beside = refl; in_folder = refl; upwards = refl; absolute = refl }
