-- Each case says it.
-- Assumes nothing.
use Rattle.origins.proofs.AimSteps.{counting}
use Rattle.origins.proofs.aims.count_of.Goals as goal

pub enum_told-1 : goal.enum_told-1
enum_told-1 c = search counting

pub enum_told-in-Items : goal.enum_told-in-Items
enum_told-in-Items c = search counting

pub enum_told-in-Messages : goal.enum_told-in-Messages
enum_told-in-Messages c = search counting

pub enum_told-in-Text : goal.enum_told-in-Text
enum_told-in-Text c = search counting

pub returns-in-Events : goal.returns-in-Events
returns-in-Events c = search counting

pub returns-in-Items : goal.returns-in-Items
returns-in-Items c = search counting

pub returns-in-Messages : goal.returns-in-Messages
returns-in-Messages c = search counting

pub returns-in-Text : goal.returns-in-Text
returns-in-Text c = search counting
