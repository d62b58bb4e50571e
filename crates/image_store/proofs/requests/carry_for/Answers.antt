use Rattle.image_store.proofs.requests.carry_for.Goals as goal

pub returns-in-Start-clause-carried : goal.returns-in-Start-clause-carried
returns-in-Start-clause-carried g c = λ m s whole. rw c.in-Start.is (c.start.ensures.carried m s whole)

pub returns-then-last-clause-carried : goal.returns-then-last-clause-carried
returns-then-last-clause-carried g c = λ m s whole. rw (c.in-Section.is, c.if-last.true) (c.section.ensures.carried c.args.base.room m s whole)

pub returns-else-last-clause-carried : goal.returns-else-last-clause-carried
returns-else-last-clause-carried g c = λ m s whole. rw (c.in-Section.is, c.if-last.false) (c.hold.ensures.carried c.args.base.room c.args.base.active m s whole)

pub returns-in-End-clause-carried : goal.returns-in-End-clause-carried
returns-in-End-clause-carried g c = λ m s whole. rw c.in-End.is (c.end.ensures.carried c.args.base.room c.args.coming.now.granted c.args.coming.now.inbox m s whole)

pub returns-in-Activate-clause-carried : goal.returns-in-Activate-clause-carried
returns-in-Activate-clause-carried g c = λ m s whole. rw c.in-Activate.is (c.activate.ensures.carried c.args.base.room c.args.coming.now.granted c.args.coming.now.inbox m s whole)

pub returns-in-Commit-clause-carried : goal.returns-in-Commit-clause-carried
returns-in-Commit-clause-carried g c = λ m s whole. rw c.in-Commit.is (c.commit.ensures.carried c.args.base.room c.args.coming.now.granted c.args.coming.now.inbox m s whole)

pub returns-in-Create-clause-carried : goal.returns-in-Create-clause-carried
returns-in-Create-clause-carried g c = λ m s whole. rw c.in-Create.is (c.ignored.ensures.carried c.args.base.room c.args.base.active c.args.coming.now.granted c.args.coming.now.inbox m s)

pub returns-in-Delete-clause-carried : goal.returns-in-Delete-clause-carried
returns-in-Delete-clause-carried g c = λ m s whole. rw c.in-Delete.is (c.ignored-in-Delete.ensures.carried c.args.base.room c.args.base.active c.args.coming.now.granted c.args.coming.now.inbox m s)

pub returns-in-Set-clause-carried : goal.returns-in-Set-clause-carried
returns-in-Set-clause-carried g c = λ m s whole. rw c.in-Set.is (c.ignored-in-Set.ensures.carried c.args.base.room c.args.base.active c.args.coming.now.granted c.args.coming.now.inbox m s)

pub returns-in-Get-clause-carried : goal.returns-in-Get-clause-carried
returns-in-Get-clause-carried g c = λ m s whole. rw c.in-Get.is (c.ignored-in-Get.ensures.carried c.args.base.room c.args.base.active c.args.coming.now.granted c.args.coming.now.inbox m s)

pub returns-in-Alarms-clause-carried : goal.returns-in-Alarms-clause-carried
returns-in-Alarms-clause-carried g c = λ m s whole. rw c.in-Alarms.is (c.ignored-in-Alarms.ensures.carried c.args.base.room c.args.base.active c.args.coming.now.granted c.args.coming.now.inbox m s)

pub returns-in-AlarmsNext-clause-carried : goal.returns-in-AlarmsNext-clause-carried
returns-in-AlarmsNext-clause-carried g c = λ m s whole. rw c.in-AlarmsNext.is (c.ignored-in-AlarmsNext.ensures.carried c.args.base.room c.args.base.active c.args.coming.now.granted c.args.coming.now.inbox m s)

pub returns-in-Upload-clause-carried : goal.returns-in-Upload-clause-carried
returns-in-Upload-clause-carried g c = λ m s whole. rw c.in-Upload.is (c.ignored-in-Upload.ensures.carried c.args.base.room c.args.base.active c.args.coming.now.granted c.args.coming.now.inbox m s)

pub returns-in-UploadNext-clause-carried : goal.returns-in-UploadNext-clause-carried
returns-in-UploadNext-clause-carried g c = λ m s whole. rw c.in-UploadNext.is (c.ignored-in-UploadNext.ensures.carried c.args.base.room c.args.base.active c.args.coming.now.granted c.args.coming.now.inbox m s)

pub returns-in-Reset-clause-carried : goal.returns-in-Reset-clause-carried
returns-in-Reset-clause-carried g c = λ m s whole. rw c.in-Reset.is (c.ignored-in-Reset.ensures.carried c.args.base.room c.args.base.active c.args.coming.now.granted c.args.coming.now.inbox m s)

pub returns-in-Reboot-clause-carried : goal.returns-in-Reboot-clause-carried
returns-in-Reboot-clause-carried g c = λ m s whole. rw c.in-Reboot.is (c.ignored-in-Reboot.ensures.carried c.args.base.room c.args.base.active c.args.coming.now.granted c.args.coming.now.inbox m s)
