-- The pages of a buffer that are lent.
use Rattle.std.specs.Prelude.{List}
use Rattle.pv_words.specs.declared.grant.Hold.{Hold}
use Rattle.page_directory.specs.Release.{left_of}
use Rattle.display_buffers.specs.declared.left.LeftPages.{LeftPages}

-- those that are left of a list
abbrev pub left_pages : LeftPages → List Hold
left_pages p = left_of p.release p.pages.now
