-- What is left of a permit, and of an end.
use Rattle.std.specs.Prelude.{ℕ}
use Rattle.pv_words.specs.Plan.{Plan, Finished}
use Rattle.grant_table.specs.declared.owner.Owned.{Owned}
use Rattle.grant_table.specs.declared.owner.Owned.TheVariants.{Opened}
use Rattle.grant_table.specs.declared.owner.OwnerStep.{OwnerStep}
use Rattle.grant_table.specs.declared.owner.OwnerStage.{OwnerStage}
use Rattle.grant_table.specs.declared.owner.OwnerStage.TheVariants as stage
use Rattle.grant_table.specs.Owning.{permit_plan, name_plan, open_plan, end_plan, close_plan}

-- no access is left; its result says nothing
abbrev pub no_more : Plan Owned
no_more = Finished Opened

abbrev pub permit_rest : (dom gref : ℕ) → OwnerStage → Plan Owned
permit_rest dom gref (stage.Start frame mode) = permit_plan dom gref frame.0 mode
permit_rest dom gref (stage.Name frame mode) = name_plan dom gref frame.0 mode
permit_rest dom gref (stage.Open mode) = open_plan dom gref mode
permit_rest dom gref stage.Check = no_more
permit_rest dom gref (stage.Close word) = no_more
permit_rest dom gref stage.Over = no_more

abbrev pub end_rest : (dom gref : ℕ) → OwnerStage → Plan Owned
end_rest dom gref (stage.Start frame mode) = no_more
end_rest dom gref (stage.Name frame mode) = no_more
end_rest dom gref (stage.Open mode) = no_more
end_rest dom gref stage.Check = end_plan dom gref
end_rest dom gref (stage.Close word) = close_plan dom gref word
end_rest dom gref stage.Over = no_more

-- what is left of a permit: no access where it is done, or an end is under way
unfoldable pub permit_left : OwnerStep → Plan Owned
permit_left o = permit_rest o.dom.0 o.gref.0 o.stage

-- what is left of an end: no access where it is done, or a permit is under way
unfoldable pub end_left : OwnerStep → Plan Owned
end_left o = end_rest o.dom.0 o.gref.0 o.stage
